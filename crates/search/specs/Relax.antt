-- The way through a window offered along all links of its place: each window that a link leads to is offered its entry, the others have none.
use Rattle.std.specs.Prelude.{ℕ, suc, ◌+◌, ◌≤◌, ◌<◌, ◌≡◌, refl, ◌⊎◌, true, false, List}
use Rattle.std.proofs.Common.{sym, ap, subst, ◌∙◌, inl, inr, ⊎_elim, arith}
use Rattle.laws.specs.Order.{lt_or_ge}
use Rattle.laws.specs.Tests.{true_or_false, not_both}
use Rattle.laws.specs.Lists.{at}
use Rattle.rules.specs.declared.Row.{Row}
use Rattle.rules.specs.Map.{Yard, linked}
use Rattle.rules.specs.Rows.{Barred}
use Rattle.lanes.specs.Reach.{next, next_low, next_step, next_top}
use Rattle.flat.specs.Flat.{links_in, last_before, Chained, span_at, Grouped}
use Rattle.flat.specs.Laws.{LastIs, last_is}
use Rattle.flat.specs.Links.{array_linked, linked_array, leads, leads_at, at_leads, group_in, group_end, group_place}
use Rattle.settle.specs.Blocks.{Blocks}
use Rattle.settle.specs.Search.{Through, In, in_or_out, through_none, through_skip}
use Rattle.search.specs.Entries.{IsEntry}
use Rattle.search.specs.Offers.{Row1, Entries, Labels, OfferedTo, through_join}

-- what stays the same during a search: n places, k links chained by place, m windows by place
pub record Ground (n k m : ℕ) (D F T H N P S E I : List ℕ) : Type 0 where
  pub places : n ≤ 256
  pub links : k ≤ 1024
  pub windows : m ≤ 1280
  pub chained : Chained F k H N
  pub to_on : (j : ℕ) → j < k → at T j < n
  pub apart : (j : ℕ) → j < k → at T j ≡ at F j → ⊥
  pub durs : (p : ℕ) → p < n → at D p ≤ 3600
  pub by_place : Grouped (at P) I n m
  pub of_place : (q : ℕ) → q < n → Row1 S E (at I q) (at I (q + 1)) (at D q)
  pub in_day : (v : ℕ) → v < m → at E v ≤ 86400

-- a yard with the durations and links of the arrays
pub record Runs (Y : Yard) (n k : ℕ) (D F T : List ℕ) : Type 0 where
  pub durs : (p : ℕ) → p < n → Y.dur p ≡ at D p
  pub links : (p q : ℕ) → Y.link p q ≡ linked (links_in F T k) p q

-- the entry into window v of who entered window u at e
abbrev pub next_by : Yard → List Row → List ℕ → List ℕ → List ℕ → ℕ → ℕ → ℕ → ℕ
next_by Y rows P S E u v e = next Y rows (span_at P S E u) (span_at P S E v) e

-- window v is led to by one of the links from number c on out of p
pub record Led (F T : List ℕ) (k p : ℕ) (P : List ℕ) (m c v : ℕ) : Type 0 where
  pub within : v < m
  pub leads : leads F T p (at P v) c k ≡ true

pub led_or_not : (F T : List ℕ) (k p : ℕ) (P : List ℕ) (m c v : ℕ) → Led F T k p P m c v ⊎ (Led F T k p P m c v → ⊥)
led_or_not F T k p P m c v =
    ⊎_elim (λ (h : v < m). ⊎_elim (λ t. inl (record { within = h; leads = t })) (λ t. inr (λ l. not_both l.leads t)) (true_or_false (leads F T p (at P v) c k)))
    (λ (h : m ≤ v). inr (λ l. omega (arith, l.within)))
    (lt_or_ge v m)

-- the way through u was offered to the windows that links from number c on lead to
pub record LedTo (rows : List Row) (n k m : ℕ) (D F T P S E : List ℕ) (u p : ℕ) (lab op bef : List ℕ) (c : ℕ) (lab' op' bef' : List ℕ) : Type 0 where
  pub through : (Y : Yard) → Runs Y n k D F T → Through (Led F T k p P m c) (λ v. next_by Y rows P S E u v (at lab u)) u lab op bef lab' op' bef'

-- the way through u was offered to every window
pub record Relaxed (rows : List Row) (n k m : ℕ) (D F T P S E : List ℕ) (u : ℕ) (lab op bef lab' op' bef' : List ℕ) : Type 0 where
  pub through : (Y : Yard) → Runs Y n k D F T → Through (In 0 m) (λ v. next_by Y rows P S E u v (at lab u)) u lab op bef lab' op' bef'

-- the loop over the links of p, at link cur - 1
pub record AlongLinks (rows : List Row) (n k m : ℕ) (D F T P S E : List ℕ) (u p : ℕ) (lab op bef : List ℕ) (cur : ℕ) (lab' op' le' bef' : List ℕ) : Type 0 where
  pub within : cur ≤ k
  pub leaves : (j : ℕ) → suc j ≡ cur → at F j ≡ p
  pub led : LedTo rows n k m D F T P S E u p lab op bef cur lab' op' bef'
  pub labels : Labels lab' op' bef'
  pub blocks : Blocks op' le'

module _ (rows : List Row) {n k m : ℕ} {D F T H N P S E I : List ℕ} (G : Ground n k m D F T H N P S E I) {u p : ℕ} (uh : u < m) (up : at P u ≡ p) where
  on_map : p < n
  on_map = let h = group_place G.by_place u uh in omega arith

  -- ---- the entries that a yard's next gives

  module _ {Y : Yard} (R : Runs Y n k D F T) (e : ℕ) where
    pub next_entry : (v : ℕ) → v < m → Y.link p (at P v) ≡ true
        → IsEntry rows (at P v) p (e + at D p) (at E u) (at D (at P v)) (at S v) (at E v) (next_by Y rows P S E u v e)
    next_entry v h l =
        let dp = R.durs p on_map in
        let dq = R.durs (at P v) (group_place G.by_place v h) in
        let du = ap Y.dur up in
        record {
          top = next_top Y rows (span_at P S E u) (span_at P S E v) e (G.in_day u uh);
          allowed = λ b. let s = next_step Y rows (span_at P S E u) (span_at P S E v) e b in record {
            soon = omega (arith, s.after);
            left = s.before;
            begun = s.from;
            fits = omega (arith, s.fits);
            clear = subst (λ x. Barred rows x (at P v) (next_by Y rows P S E u v e) → ⊥) up s.clear;
          };
          low = λ x A. next_low Y rows (span_at P S E u) (span_at P S E v) e x (record {
            linked = rw up l;
            after = omega (arith, A.soon);
            before = A.left;
            from = A.begun;
            fits = omega (arith, A.fits);
            clear = rw up A.clear;
          });
        }

    pub next_none : (v : ℕ) → Y.link p (at P v) ≡ false → next_by Y rows P S E u v e ≡ 86401
    next_none v l =
        ⊎_elim (λ (b : next_by Y rows P S E u v e < 86401). absurd (not_both (rw up at (next_step Y rows (span_at P S E u) (span_at P S E v) e b).linked) l))
        (λ (b : 86401 ≤ next_by Y rows P S E u v e). omega (arith, next_top Y rows (span_at P S E u) (span_at P S E v) e (G.in_day u uh)))
        (lt_or_ge (next_by Y rows P S E u v e) 86401)

    -- the windows of a place that a link leads to
    pub next_entries : (q : ℕ) → q < n → Y.link p q ≡ true → Entries rows q p (e + at D p) (at E u) (at D q) S E (at I q) (at I (q + 1)) (λ v. next_by Y rows P S E u v e)
    next_entries q h l = record {
      is = λ v a b.
          let w : v < m = omega (arith, group_end G.by_place (q + 1) (omega arith)) in
          let z : at P v ≡ q = G.by_place.of q v h a b in
          subst (λ x. IsEntry rows x p (e + at D p) (at E u) (at D x) (at S v) (at E v) (next_by Y rows P S E u v e)) z (next_entry v w (rw z l));
    }

  -- ---- the loop

  module _ {lab op bef : List ℕ} where
    pub along_start : {le : List ℕ} → Labels lab op bef → Blocks op le → AlongLinks rows n k m D F T P S E u p lab op bef (at H p) lab op le bef
    along_start L B =
        let A = subst (LastIs F p k) (sym (G.chained.head p (omega (arith, on_map, G.places)))) (last_is F p k) in
        record {
          within = A.within;
          leaves = A.leaves;
          led = record { through = λ Y R. through_none (λ v l. let x = leads_at F T p (at P v) (at H p) k l.leads in A.none x.0 x.1 x.2 x.3) };
          labels = L;
          blocks = B;
        }

    module _ {j cur : ℕ} {lab' op' le' bef' : List ℕ} (A : AlongLinks rows n k m D F T P S E u p lab op bef cur lab' op' le' bef') (e : suc j ≡ cur) where
      link_below : j < k
      link_below = omega (arith, A.within)

      leaves_p : at F j ≡ p
      leaves_p = A.leaves j e

      -- link j was followed, and the one before it of the same place is next
      pub along_next : {lab'' op'' le'' bef'' : List ℕ} {soonest : ℕ} → soonest ≡ at lab u + at D p
          → OfferedTo rows (at T j) p soonest (at E u) (at D (at T j)) S E (at I (at T j)) (at I (at T j + 1)) u lab' op' bef' (at I (at T j + 1)) lab'' op'' bef''
          → Labels lab'' op'' bef'' → Blocks op'' le'' → AlongLinks rows n k m D F T P S E u p lab op bef (at N j) lab'' op'' le'' bef''
      along_next {lab''} {op''} {le''} {bef''} es O L B =
          let Z = subst (LastIs F p j) (sym (G.chained.link j link_below ∙ ap (λ x. last_before F x j) leaves_p)) (last_is F p j) in
          record {
            within = omega (arith, Z.within, link_below);
            leaves = Z.leaves;
            led = record {
              through = λ Y R.
                  through_join (A.led.through Y R)
                  (O.through (λ v. next_by Y rows P S E u v (at lab u)) (rw es (next_entries R (at lab u) (at T j) (G.to_on j link_below) (R.links p (at T j) ∙ array_linked F T k p (at T j) j link_below leaves_p refl))))
                  (led_or_not F T k p P m cur) (in_or_out (at I (at T j)) (at I (at T j + 1)))
                  (into Z) (out Z);
            };
            labels = L;
            blocks = B;
          }
        where
          into : LastIs F p j (at N j) → (v : ℕ) → Led F T k p P m (at N j) v → Led F T k p P m cur v ⊎ In (at I (at T j)) (at I (at T j + 1)) v
          into Z v l =
              let x = leads_at F T p (at P v) (at N j) k l.leads in
              let i = x.0 in
              let i-from = x.1 in
              let i-to = x.2 in
              ⊎_elim (λ (h : i < cur).
              ⊎_elim (λ (g : i < j). absurd (Z.none i i-from g x.3))
              (λ (g : j ≤ i). let z : j ≡ i = omega arith in let w = group_in G.by_place v (at T j) l.within (sym x.4 ∙ ap (at T) (sym z)) in inr (record { from = w.0; to = w.1 }))
              (lt_or_ge i j))
              (λ (h : cur ≤ i). inl (record { within = l.within; leads = at_leads F T p (at P v) cur k i h i-to x.3 x.4 }))
              (lt_or_ge i cur)

          out : LastIs F p j (at N j) → (v : ℕ) → (Led F T k p P m (at N j) v → ⊥) → (Led F T k p P m cur v → ⊥) × (In (at I (at T j)) (at I (at T j + 1)) v → ⊥)
          out Z v nix = (
            λ l. let x = leads_at F T p (at P v) cur k l.leads in
                let x1 = x.1 in
                nix (record { within = l.within; leads = at_leads F T p (at P v) (at N j) k x.0 (omega (arith, Z.within)) x.2 x.3 x.4 }),
            λ i. nix (record {
              within = omega (arith, group_end G.by_place (at T j + 1) (omega (arith, G.to_on j link_below)), i.to);
              leads = at_leads F T p (at P v) (at N j) k j (omega (arith, Z.within)) link_below leaves_p (sym (G.by_place.of (at T j) v (G.to_on j link_below) i.from i.to));
            }),
          )

    -- all links are followed: every window was offered its entry
    pub along_end : {lab' op' le' bef' : List ℕ} → ((x : ℕ) → at lab x ≤ 86401) → AlongLinks rows n k m D F T P S E u p lab op bef 0 lab' op' le' bef'
        → Relaxed rows n k m D F T P S E u lab op bef lab' op' bef'
    along_end low A = record {
      through = λ Y R.
          through_skip (A.led.through Y R)
          (λ v h. ⊎_elim (λ l. inl l) (λ nix. inr (nix, by Y R v h.to nix)) (led_or_not F T k p P m 0 v))
          (λ v nix l. nix (record { from = omega arith; to = l.within }));
    }
      where
        by : (Y : Yard) → Runs Y n k D F T → (v : ℕ) → v < m → (Led F T k p P m 0 v → ⊥) → at lab v ≤ next_by Y rows P S E u v (at lab u)
        by Y R v h nix =
            ⊎_elim (λ t. let x = linked_array F T k p (at P v) (sym (R.links p (at P v)) ∙ t) in absurd (nix (record { within = h; leads = at_leads F T p (at P v) 0 k x.0 (omega arith) x.1 x.2 x.3 })))
            (λ t. omega (arith, low v, next_none R (at lab u) v t))
            (true_or_false (Y.link p (at P v)))
