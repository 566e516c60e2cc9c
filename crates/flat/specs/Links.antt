-- Links by index, and the windows or rows of a place by index.
use Rattle.std.specs.Prelude.{ℕ, zero, suc, ◌+◌, ◌≤◌, ◌<◌, ◌≡◌, ◌⊎◌, Bool, true, false, ◌&&◌, ◌||◌, List, [], ◌∷◌, length, eqb, leb}
use Rattle.std.proofs.Common.{sym, ap, ◌∙◌, inl, inr, ⊎_elim, arith, eqb-true, leb-true, eq-eqb, le-leb}
use Rattle.laws.specs.Order.{lt_or_ge}
use Rattle.laws.specs.Tests.{and_in, and_l, and_r, or_out, or_l, or_r}
use Rattle.laws.specs.Lists.{at}
use Rattle.rules.specs.declared.Link.{Link}
use Rattle.rules.specs.Map.{link_at, linked}
use Rattle.lanes.specs.Yards.{linked_at}
use Rattle.flat.specs.Flat.{links_in, Grouped}
use Rattle.flat.specs.Laws.{links_long, link_in}

pub at_linked : (ls : List Link) (p q j : ℕ) → j < length ls → (link_at ls j).from ≡ p → (link_at ls j).to ≡ q → linked ls p q ≡ true
unfolding linked
at_linked [] p q j h a b = absurd (omega arith)
at_linked (l ∷ ls) p q zero h a b = or_l (linked ls p q) (and_in (eq-eqb l.from p a) (eq-eqb l.to q b))
at_linked (l ∷ ls) p q (suc j) h a b = or_r (eqb l.from p && eqb l.to q) (at_linked ls p q j (omega arith) a b)

-- the same over arrays
module _ (F T : List ℕ) (k p q : ℕ) where
  pub array_linked : (j : ℕ) → j < k → at F j ≡ p → at T j ≡ q → linked (links_in F T k) p q ≡ true
  array_linked j h a b =
      let e = link_in F T k j h in
      at_linked (links_in F T k) p q j (rw (links_long F T k) h) (ap (λ (l : Link). l.from) e ∙ a) (ap (λ (l : Link). l.to) e ∙ b)

  pub linked_array : linked (links_in F T k) p q ≡ true → (j : ℕ) × (j < k) × (at F j ≡ p) × (at T j ≡ q)
  linked_array h =
      let x = linked_at (links_in F T k) p q h in
      let l : x.at < k = rw (links_long F T k) at x.within in
      let e = link_in F T k x.at l in
      (x.at, l, ap (λ (l : Link). l.from) (sym e) ∙ x.from, ap (λ (l : Link). l.to) (sym e) ∙ x.to)

-- one of the links c .. k - 1 goes from p to q
unfoldable pub leads : List ℕ → List ℕ → ℕ → ℕ → ℕ → ℕ → Bool
leads F T p q c zero = false
leads F T p q c (suc k) = (leb c k && (eqb (at F k) p && eqb (at T k) q)) || leads F T p q c k

pub leads_at : (F T : List ℕ) (p q c k : ℕ) → leads F T p q c k ≡ true → (j : ℕ) × (c ≤ j) × (j < k) × (at F j ≡ p) × (at T j ≡ q)
unfolding leads
leads_at F T p q c zero h = let z : ◌≡◌ {A = ℕ} 0 1 = cc in absurd (omega arith)
leads_at F T p q c (suc k) h = by (or_out (leb c k && (eqb (at F k) p && eqb (at T k) q)) (leads F T p q c k) h) (λ t. leads_at F T p q c k t)
  where
    by : ((leb c k && (eqb (at F k) p && eqb (at T k) q)) ≡ true) ⊎ (leads F T p q c k ≡ true)
        → (leads F T p q c k ≡ true → (j : ℕ) × (c ≤ j) × (j < k) × (at F j ≡ p) × (at T j ≡ q)) → (j : ℕ) × (c ≤ j) × (j < suc k) × (at F j ≡ p) × (at T j ≡ q)
    by (inl t) f =
        let u = and_r (leb c k) (eqb (at F k) p && eqb (at T k) q) t in
        (k, leb-true c k (and_l (leb c k) (eqb (at F k) p && eqb (at T k) q) t), omega arith, eqb-true (at F k) p (and_l (eqb (at F k) p) (eqb (at T k) q) u), eqb-true (at T k) q (and_r (eqb (at F k) p) (eqb (at T k) q) u))
    by (inr t) f = let x = f t in let l = x.2 in (x.0, x.1, omega arith, x.3, x.4)

pub at_leads : (F T : List ℕ) (p q c k j : ℕ) → c ≤ j → j < k → at F j ≡ p → at T j ≡ q → leads F T p q c k ≡ true
unfolding leads
at_leads F T p q c zero j a b e f = absurd (omega arith)
at_leads F T p q c (suc k) j a b e f =
    ⊎_elim (λ (h : j < k). or_r (leb c k && (eqb (at F k) p && eqb (at T k) q)) (at_leads F T p q c k j a h e f))
    (λ (h : k ≤ j).
    let z : k ≡ j = omega arith in
    or_l (leads F T p q c k) (and_in (le-leb c k (omega arith)) (and_in (eq-eqb (at F k) p (ap (at F) z ∙ e)) (eq-eqb (at T k) q (ap (at T) z ∙ f)))))
    (lt_or_ge j k)

-- ---- things in order of place

module _ {place : ℕ → ℕ} {F : List ℕ} {n w : ℕ} (G : Grouped place F n w) where
  pub record GroupOf (i : ℕ) : Type 0 where
    pub p : ℕ
    pub on_map : p < n
    pub lo : at F p ≤ i
    pub hi : i < at F (p + 1)

  find : (m i : ℕ) → m ≤ n → i < at F m → GroupOf i
  find zero i h k = absurd (omega (arith, G.begins))
  find (suc m) i h k =
      ⊎_elim (λ (q : i < at F m). find m i (omega arith) q)
      (λ (q : at F m ≤ i). let e : suc m ≡ m + 1 = omega arith in record { p = m; on_map = omega arith; lo = q; hi = omega (arith, ap (at F) e) })
      (lt_or_ge i (at F m))

  pub group_of : (i : ℕ) → i < w → GroupOf i
  group_of i h = find n i (omega arith) (omega (arith, G.ends))

  pub group_place : (i : ℕ) → i < w → place i < n
  group_place i h = let g = group_of i h in let e = G.of g.p i g.on_map g.lo g.hi in omega (arith, g.on_map)

  -- what has place q is among those of q
  pub group_in : (i q : ℕ) → i < w → place i ≡ q → (at F q ≤ i) × (i < at F (q + 1))
  group_in i q h e =
      let g = group_of i h in
      let z : g.p ≡ q = sym (G.of g.p i g.on_map g.lo g.hi) ∙ e in
      (omega (arith, ap (at F) z, g.lo), omega (arith, ap (λ x. at F (x + 1)) z, g.hi))

  up_to : (m p : ℕ) → p ≤ m → m ≤ n → at F p ≤ at F m
  up_to zero p h k = let e : p ≡ 0 = omega arith in omega (arith, ap (at F) e)
  up_to (suc m) p h k =
      ⊎_elim (λ (q : p ≤ m). let e : suc m ≡ m + 1 = omega arith in omega (arith, up_to m p q (omega arith), G.up m (omega arith), ap (at F) e))
      (λ (q : m < p). let e : p ≡ suc m = omega arith in omega (arith, ap (at F) e))
      (⊎_elim (λ (q : p < suc m). inl (omega arith)) (λ (q : suc m ≤ p). inr q) (lt_or_ge p (suc m)))

  -- none is numbered past the last
  pub group_end : (p : ℕ) → p ≤ n → at F p ≤ w
  group_end p h = omega (arith, up_to n p h (omega arith), G.ends)
