-- From a place along the crossings of a second: the places led to are marked and listed; one after the other each is expanded, the places that it
-- leads to marked. At the end the marks are closed under crossings, and to each marked place crossings lead.
use Rattle.std.specs.Prelude.{ℕ, ◌+◌, ◌-◌, ◌≤◌, ◌<◌, ◌≡◌, Bool, List, take, drop, Option, None, Some}
use Rattle.std.proofs.Common.{sym, ap, subst, ◌∙◌, inl, inr, ⊎_elim, arith, below_more, get_or-take, get_or-drop}
use Rattle.laws.specs.Order.{lt_or_ge}
use Rattle.laws.specs.Lists.{at}
use Rattle.rules.specs.declared.Row.{Row}
use Rattle.rules.specs.Rows.{Crossing, Leads}
use Rattle.rules.specs.Rows.Leads.{one}
use Rattle.rules.specs.RowLaws.{then, leads_into, last_step, Reaches}
use Rattle.flat.specs.Flat.{exit_of, next_value}
use Rattle.lookup.specs.Lists.{Marked, Listing, Grown, Put}

-- ---- one place expanded

-- the list has grown by places that x leads to; all that it leads to are marked, and p is none of them
pub record Spread (To : ℕ → Type 0) (p : ℕ) (M : List Bool) (W : List ℕ) (l : ℕ) (M' : List Bool) (W' : List ℕ) (l' : ℕ) : Type 0 where
  pub grown : Grown M W l M' W' l'
  pub new : (k : ℕ) → l ≤ k → k < l' → To (at W' k)
  pub all : (y : ℕ) → To y → Marked M' y
  pub none : To p → ⊥

pub spread_as : {To To' : ℕ → Type 0} {p l l' : ℕ} {M M' : List Bool} {W W' : List ℕ} → ((y : ℕ) → To y → To' y) → ((y : ℕ) → To' y → To y)
    → Spread To p M W l M' W' l' → Spread To' p M W l M' W' l'
spread_as {p = p} f g S = record { grown = S.grown; new = λ k a b. f _ (S.new k a b); all = λ y h. S.all y (g y h); none = λ h. S.none (g p h) }

-- row i of the rows a .. b
pub part_at : (X : List ℕ) (a b i : ℕ) → i < b - a → at (take (b - a) (drop a X)) i ≡ at X (a + i)
part_at X a b i h = get_or-take (b - a) (drop a X) i 0 h ∙ get_or-drop a X i 0

-- one of the rows a .. b goes on from x to y at t
pub record Onward (X : List ℕ) (a b x t y : ℕ) : Type 0 where
  pub row : ℕ
  pub from : a ≤ row
  pub to : row < b
  pub exit : exit_of (at X row) ≡ t
  pub next : next_value (at X row) ≡ y
  pub apart : y ≡ x → ⊥

-- the answer of an expansion: the list's new length, None where p is met
pub record Expanded (X : List ℕ) (a b x p t : ℕ) (M : List Bool) (W : List ℕ) (l : ℕ) (M' : List Bool) (W' : List ℕ) (r : Option ℕ) : Type 0 where
  pub met : r ≡ None → Onward X a b x t p
  pub spread : (l' : ℕ) → r ≡ Some l' → Spread (Onward X a b x t) p M W l M' W' l'

onward_more : {X : List ℕ} {a b x t y : ℕ} → Onward X a b x t y → Onward X a (b + 1) x t y
onward_more o = record { row = o.row; from = o.from; to = omega (arith, o.to); exit = o.exit; next = o.next; apart = o.apart }

module _ (X : List ℕ) (a x p t : ℕ) (M : List Bool) (W : List ℕ) (l : ℕ) where
  -- rows a .. i looked through
  abbrev pub Looked : ℕ → List Bool → List ℕ → ℕ → Type 0
  Looked i M' W' l' = Spread (Onward X a i x t) p M W l M' W' l'

  module _ {i : ℕ} {M' : List Bool} {W' : List ℕ} {l' : ℕ} (S : Looked i M' W' l') where
    -- of the rows up to i, row i or one before
    last : {y : ℕ} {A : Type 0} → (Onward X a i x t y → A) → (exit_of (at X i) ≡ t → next_value (at X i) ≡ y → (y ≡ x → ⊥) → A) → Onward X a (i + 1) x t y → A
    last {y} {A} f g o = ⊎_elim
        (λ (h : o.row < i). f (record { row = o.row; from = o.from; to = h; exit = o.exit; next = o.next; apart = o.apart }))
        (λ (h : i ≤ o.row). let e : o.row ≡ i = omega (arith, o.to) in g (ap (λ (j : ℕ). exit_of (at X j)) (sym e) ∙ o.exit) (ap (λ (j : ℕ). next_value (at X j)) (sym e) ∙ o.next) o.apart)
        (lt_or_ge o.row i)

    -- a row that does not go on from x at t
    pub looked_skip : ((exit_of (at X i) ≡ t) × (next_value (at X i) ≡ x → ⊥) → ⊥) → Looked (i + 1) M' W' l'
    looked_skip f = record {
      grown = S.grown;
      new = λ k c d. onward_more (S.new k c d);
      all = λ y o. last (S.all y) (λ e n ne. absurd (f (e, λ z. ne (sym n ∙ z)))) o;
      none = λ o. last S.none (λ e n ne. f (e, λ z. ne (sym n ∙ z))) o;
    }

    -- one that does, and not to p
    pub looked_put : {y : ℕ} {M'' : List Bool} {W'' : List ℕ} {l'' : ℕ} → a ≤ i → exit_of (at X i) ≡ t → next_value (at X i) ≡ y → (y ≡ x → ⊥) → (y ≡ p → ⊥) → Put y M' W' l' M'' W'' l''
        → Looked (i + 1) M'' W'' l''
    looked_put {y} {M''} {W''} {l''} h e n ne np P = record {
      grown = record {
        list = G.list;
        more = omega (arith, G.more, S.grown.more);
        kept = λ j m. G.kept j (S.grown.kept j m);
        same = λ k c. G.same k (omega (arith, S.grown.more)) ∙ S.grown.same k c;
      };
      new = λ k c d. ⊎_elim
          (λ (g : k < l'). subst (Onward X a (i + 1) x t) (sym (G.same k g)) (onward_more (S.new k c g)))
          (λ (g : l' ≤ k). subst (Onward X a (i + 1) x t) (sym (P.new k g d)) (record { row = i; from = h; to = omega arith; exit = e; next = n; apart = ne }))
          (lt_or_ge k l');
      all = λ z o. last (λ u. G.kept z (S.all z u)) (λ _ m _. subst (Marked M'') (sym n ∙ m) P.here) o;
      none = λ o. last S.none (λ _ m _. np (sym n ∙ m)) o;
    }
      where
        G : Grown M' W' l' M'' W'' l''
        G = P.grown

  -- lists named anew
  pub looked_as : {i l' l'' : ℕ} {M' M'' : List Bool} {W' W'' : List ℕ} → M'' ≡ M' → W'' ≡ W' → l'' ≡ l' → Looked i M' W' l' → Looked i M'' W'' l''
  looked_as c d e S = rw (c, d, e) S

-- ---- one place after the other

-- all crossings from x lead to marked places, and none to p
pub record Done (rows : List Row) (t p : ℕ) (M : List Bool) (x : ℕ) : Type 0 where
  pub all : (y : ℕ) → Crossing rows x y t → Marked M y
  pub none : Crossing rows x p t → ⊥

-- the first h places of the list are expanded
pub record Going (rows : List Row) (t q p : ℕ) (M : List Bool) (W : List ℕ) (h l : ℕ) : Type 0 where
  pub list : Listing M W l
  pub up : h ≤ l
  pub root : Marked M q
  pub reached : (k : ℕ) → k < l → Reaches rows t q (at W k)
  pub done : (k : ℕ) → k < h → Done rows t p M (at W k)

done_more : {rows : List Row} {t p x : ℕ} {M M' : List Bool} → ((j : ℕ) → Marked M j → Marked M' j) → Done rows t p M x → Done rows t p M' x
done_more f D = record { all = λ y g. f y (D.all y g); none = D.none }

reach_on : {rows : List Row} {t q x y : ℕ} → Reaches rows t q x → Crossing rows x y t → Leads rows t q y
reach_on {rows} {t} {q} {x} {y} (inl e) c = subst (λ (u : ℕ). Leads rows t u y) (sym e) (one c)
reach_on (inr l) c = then l (one c)

module _ (rows : List Row) (t q p : ℕ) where
  module _ {M : List Bool} {W : List ℕ} {h l : ℕ} (G : Going rows t q p M W h l) where
    pub going_turn : {M' : List Bool} {W' : List ℕ} {l' : ℕ} → h < l → Spread (λ y. Crossing rows (at W h) y t) p M W l M' W' l' → Going rows t q p M' W' (h + 1) l'
    going_turn {M'} {W'} {l'} b S = record {
      list = S.grown.list;
      up = omega (arith, S.grown.more);
      root = S.grown.kept q G.root;
      reached = λ k a. ⊎_elim
          (λ (c : k < l). subst (Reaches rows t q) (sym (S.grown.same k c)) (G.reached k c))
          (λ (c : l ≤ k). inr (reach_on (G.reached h b) (S.new k c a)))
          (lt_or_ge k l);
      done = below_more (λ k. Done rows t p M' (at W' k)) h
          (λ k a. subst (Done rows t p M') (sym (S.grown.same k (omega (arith, G.up)))) (done_more S.grown.kept (G.done k a)))
          (subst (Done rows t p M') (sym (S.grown.same h b)) (record { all = S.all; none = S.none }));
    }

    pub going_met : h < l → Crossing rows (at W h) p t → Leads rows t q p
    going_met b c = reach_on (G.reached h b) c

    -- all expanded: the marks are closed, and no way leads to p
    pub going_none : l ≤ h → Leads rows t q p → ⊥
    going_none e w = by (last_step w)
      where
        of : (a : ℕ) → Marked M a → Done rows t p M a
        of a m = let r = G.list.listed a m in subst (Done rows t p M) r.2 (G.done r.0 (omega (arith, r.1)))

        marked : {x : ℕ} → Reaches rows t q x → Marked M x
        marked (inl z) = subst (Marked M) z G.root
        marked (inr v) = leads_into (Marked M) (λ a b m c. (of a m).all b c) G.root v

        by : (x : ℕ) × Reaches rows t q x × Crossing rows x p t → ⊥
        by r = (of r.0 (marked r.1)).none r.2
