-- The chosen plan by a test. With the earliest entry of every window at hand, the destination's window and each window before are compared
-- with all others; a plan that stands the test is the chosen one, and where no window of the destination has an entry there is no plan.
use Prim.Native.Nat.{ℕ, zero, suc, ◌+◌, ◌≤◌, ◌<◌}
use Rattle.std.specs.Prelude.{◌≡◌, Bool, true, ◌&&◌, ◌||◌, List, [], ◌∷◌, length, leb, ltb}
use Rattle.std.proofs.Math.Path.{ap, subst, subst₂}
use Rattle.std.proofs.Common.{◌∙◌, arith}
use Rattle.std.proofs.Math.Logic.{⊎_elim}
use Rattle.std.proofs.Math.ListN.{get_or}
use Rattle.std.proofs.Math.Dec.{eqb}
use borrow.Author.Tests.{eqb-true, leb-true, ltb-true, eq-eqb}
use Rattle.laws.specs.Tests.{and_l, and_r, or_out}
use Rattle.rules.specs.declared.Row.{Row}
use Rattle.rules.specs.Map.{Yard}
use Rattle.rules.specs.Rows.{load}
use Rattle.rules.specs.Plan.{Stay, Permitted}
use Rattle.rules.specs.Window.{Span, Enters, Earliest, Yields}
use Rattle.rules.specs.Chosen.{LexLe, Prior, Back, first, prior, Chosen}
use Rattle.lanes.specs.Yards.{YardRules}
use Rattle.lanes.specs.Reach.{Enter}
use Rattle.lanes.specs.Best.{plan_last, enters_enter, enter_enters, soonest_earliest}
use Rattle.cases.specs.Checks.{every, holds, under, under_out, lex_b, lex_out, same_plan, same_plan_lem}
use Rattle.cases.specs.Next.{mark, least_entry, least_yields, yields_least}
use Rattle.cases.specs.Entries.{all_below, below_out, span_at, entry_at, Entered}

module _ (Y : Yard) (B : List Row) (start dest s : ℕ) (ws : List Span) (dist back : List ℕ) where
  abbrev W : ℕ → Span
  W i = span_at ws i

  abbrev D : ℕ → ℕ
  D i = entry_at dist i

  abbrev Into : ℕ → ℕ → ℕ
  Into i j = least_entry Y B (W i) (W j) (D i)

  -- if x yields j's entry too, i comes before it or is as early
  unfoldable pub rival_b : ℕ → ℕ → ℕ → Bool
  rival_b i j x = under (eqb (Into x j) (D j)) (lex_b (D i) (W i).place (W i).from (D x) (W x).place (W x).from)

  -- i is the window before j
  abbrev prior_tests : ℕ → ℕ → List Bool
  prior_tests i j = ltb i (length ws) ∷ ltb (D i) mark ∷ ltb s (D j) ∷ eqb (Into i j) (D j) ∷ all_below (length ws) (rival_b i j) ∷ []

  unfoldable pub prior_b : ℕ → ℕ → Bool
  prior_b i j = every (prior_tests i j)

  unfoldable pub begins_b : ℕ → Bool
  begins_b j = eqb (W j).place start && eqb (D j) s

  abbrev stay : ℕ → ℕ → Stay
  stay i u = record { place = (W i).place; entry = D i; exit = u }

  -- walked back from j, with the stays after it, in at most so many steps, the plan is this one
  unfoldable pub trail_b : ℕ → ℕ → List Stay → List Stay → Bool
  trail_b zero j after plan = begins_b j && same_plan after plan
  trail_b (suc k) j after plan = (begins_b j && same_plan after plan) || (prior_b (get_or back j 0) j && trail_b k (get_or back j 0) (stay (get_or back j 0) (D j) ∷ after) plan)

  -- i is no window of the destination that is entered before j
  unfoldable pub later_b : ℕ → ℕ → Bool
  later_b j i = under (eqb (W i).place dest) (leb (D j) (D i))

  -- j is the destination's window, and the plan is walked back from it
  abbrev chosen_tests : ℕ → List Stay → List Bool
  chosen_tests j plan =
      ltb j (length ws) ∷ ltb (D j) mark ∷ eqb (W j).place dest ∷ all_below (length ws) (later_b j)
      ∷ trail_b (length plan) j (record { place = dest; entry = D j; exit = D j + Y.dur dest } ∷ []) plan ∷ []

  unfoldable pub chosen_b : ℕ → List Stay → Bool
  chosen_b j plan = every (chosen_tests j plan)

  -- the destination's windows are never entered
  unfoldable pub closed_b : ℕ → Bool
  closed_b i = under (eqb (W i).place dest) (leb mark (D i))

  unfoldable pub none_b : Bool
  none_b = all_below (length ws) closed_b

  module _ (E : Entered Y B start s ws dist) where
    enters_low : {v : Span} {t : ℕ} (n : Enters Y B start s v t) → let f = E.all v n.window in D f.0 ≤ t
    enters_low {v} {t} n = let f = E.all v n.window in E.low t f.0 f.1 (rw f.2 (enters_enter Y B start s n))

    pub no_plan : none_b ≡ true → (plan : List Stay) → Permitted Y B start dest s plan → ⊥
    unfolding none_b closed_b
    no_plan t plan P =
        let l = plan_last Y B start s plan P in
        let f = E.all l.w l.enters.window in
        let e : (W f.0).place ≡ dest = ap (λ (w : Span). w.place) f.2 ∙ l.at_dest in
        let m = leb-true mark (D f.0) (under_out (below_out (length ws) closed_b t f.0 f.1) (eq-eqb _ _ e)) in
        omega (arith, enters_low l.enters, l.enters.to, l.enters.window.in_day)

    module _ (R : YardRules Y) (booked : (p u : ℕ) → p < Y.places → load B p u ≤ Y.cap p) where
      earliest : (i : ℕ) → i < length ws → D i < mark → Earliest Y B start s (W i) (D i)
      earliest i h m = soonest_earliest Y B start s R booked (record { enter = E.real i h m; least = λ t n. E.low t i h n })

      -- the list's entry of a window is its earliest
      entry_is : {x : Span} {d : ℕ} (e : Earliest Y B start s x d) → let f = E.all x e.enters.window in D f.0 ≡ d
      entry_is {x} {d} e =
          let f = E.all x e.enters.window in
          let l = enters_low e.enters in
          let m : D f.0 < mark = omega (arith, e.enters.to, e.enters.window.in_day) in
          let n : Enter Y B start s x (D f.0) = subst (λ v. Enter Y B start s v (D f.0)) f.2 (E.real f.0 f.1 m) in
          omega (arith, e.least (D f.0) (enter_enters Y B start s R booked n))

      prior_is : (i j : ℕ) → j < length ws → D j < mark → prior_b i j ≡ true → Prior Y B start dest s (W j) (D j) (W i) (D i)
      unfolding prior_b rival_b
      prior_is i j k m t =
          let e = eqb-true (Into i j) (D j) (holds (prior_tests i j) t 3) in
          record {
            earliest = earliest i (ltb-true i (length ws) (holds (prior_tests i j) t 0)) (ltb-true (D i) mark (holds (prior_tests i j) t 1));
            yields = subst (Yields Y B (W i) (W j) (D i)) e (least_yields Y B (W i) (W j) (D i) (E.are j k).long (omega arith));
            least = λ x d q y.
                let f = E.all x q.enters.window in
                let z = entry_is q in
                let y' : Yields Y B (W f.0) (W j) (D f.0) (D j) = rw (f.2, z) y in
                let r = under_out (below_out (length ws) (rival_b i j) (holds (prior_tests i j) t 4) f.0 f.1) (eq-eqb _ _ (yields_least Y B (W f.0) (W j) (D f.0) (D j) (E.are j k).long m y')) in
                subst₂ (λ (v : Span) (a : ℕ). LexLe (D i) (W i).place (W i).from a v.place v.from) f.2 z (lex_out (D i) (W i).place (W i).from (D f.0) (W f.0).place (W f.0).from r);
          }

      first_is : (j : ℕ) (after plan : List Stay) → (begins_b j && same_plan after plan) ≡ true → Back Y B start dest s (W j) (D j) after plan
      unfolding begins_b
      first_is j after plan t =
          let a = and_l (eqb (W j).place start && eqb (D j) s) (same_plan after plan) t in
          subst (Back Y B start dest s (W j) (D j) after) (same_plan_lem after plan (and_r (eqb (W j).place start && eqb (D j) s) (same_plan after plan) t))
          (first (eqb-true _ _ (and_l (eqb (W j).place start) (eqb (D j) s) a)) (eqb-true _ _ (and_r (eqb (W j).place start) (eqb (D j) s) a)))

      trail_is : (k j : ℕ) (after plan : List Stay) → j < length ws → D j < mark → trail_b k j after plan ≡ true → Back Y B start dest s (W j) (D j) after plan
      unfolding trail_b prior_b
      trail_is zero j after plan h m t = first_is j after plan t
      trail_is (suc k) j after plan h m t =
          ⊎_elim (λ x. first_is j after plan x)
          (λ x. step (and_l (prior_b (get_or back j 0) j) _ x) (λ h' m'. trail_is k (get_or back j 0) (stay (get_or back j 0) (D j) ∷ after) plan h' m' (and_r (prior_b (get_or back j 0) j) _ x)))
          (or_out (begins_b j && same_plan after plan) _ t)
        where
          i : ℕ
          i = get_or back j 0

          step : prior_b i j ≡ true → (i < length ws → D i < mark → Back Y B start dest s (W i) (D i) (stay i (D j) ∷ after) plan) → Back Y B start dest s (W j) (D j) after plan
          step p b =
              prior (ltb-true s (D j) (holds (prior_tests i j) p 2)) (prior_is i j h m p) (b (ltb-true i (length ws) (holds (prior_tests i j) p 0)) (ltb-true (D i) mark (holds (prior_tests i j) p 1)))

      pub chosen_is : (j : ℕ) (plan : List Stay) → chosen_b j plan ≡ true → Chosen Y B start dest s plan
      unfolding chosen_b later_b
      chosen_is j plan t =
          let h = ltb-true j (length ws) (holds (chosen_tests j plan) t 0) in
          let m = ltb-true (D j) mark (holds (chosen_tests j plan) t 1) in
          record {
            w = W j;
            e = D j;
            goal = record {
              at_dest = eqb-true (W j).place dest (holds (chosen_tests j plan) t 2);
              earliest = earliest j h m;
              least = λ v u p n.
                  let f = E.all v n.window in
                  let e : (W f.0).place ≡ dest = ap (λ (w : Span). w.place) f.2 ∙ p in
                  omega (arith, leb-true (D j) (D f.0) (under_out (below_out (length ws) (later_b j) (holds (chosen_tests j plan) t 3) f.0 f.1) (eq-eqb _ _ e)), enters_low n);
            };
            back = trail_is (length plan) j _ plan h m (holds (chosen_tests j plan) t 4);
          }
