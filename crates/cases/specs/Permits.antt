-- A permitted plan by a test: its stays are looked at one after the other, each second of each for room. The last alone is a plan from its
-- place, and each stay before makes one more of it.
use Rattle.std.specs.Prelude.{ℕ, ◌+◌, ◌-◌, ◌≤◌, ◌<◌, Bool, true, false, not, eqb, leb, ltb}
use Rattle.std.proofs.Math.Path.{◌≡◌, sym, subst}
use mathlib.Core.List.{List, [], ◌∷◌}
use native.Mathlib.Omega.{arith}
use borrow.Author.Tests.{eqb-true, leb-true, ltb-true, not-true}
use Rattle.rules.specs.declared.Row.{Row}
use Rattle.rules.specs.Limits.{day}
use Rattle.rules.specs.Map.{Yard}
use Rattle.rules.specs.Rows.{load}
use Rattle.rules.specs.RingLaws.{barredb, unbarred}
use Rattle.rules.specs.Plan.{Stay, stay_at, Permitted}
use Rattle.rules.specs.Window.{Free}
use Rattle.lanes.specs.Made.{alone, in_front}
use Rattle.cases.specs.Checks.{every, holds}
use Rattle.cases.specs.Entries.{all_below, below_out}

module _ (Y : Yard) (B : List Row) (dest : ℕ) where
  abbrev open_b : ℕ → ℕ → ℕ → Bool
  open_b p a i = ltb (load B p (a + i)) (Y.cap p)

  -- there is room for one more from a to b-1
  unfoldable pub free_b : ℕ → ℕ → ℕ → Bool
  free_b p a b = all_below (b - a) (open_b p a)

  free_is : (p a b : ℕ) → free_b p a b ≡ true → Free Y B p a b
  unfolding free_b
  free_is p a b t x h k =
      let i = x - a in
      let e : a + i ≡ x = omega arith in
      subst (λ u. load B p u < Y.cap p) e (ltb-true (load B p (a + i)) (Y.cap p) (below_out (b - a) (open_b p a) t i (omega arith)))

  abbrev last_tests : Stay → List Bool
  last_tests x = eqb x.place dest ∷ ltb dest Y.places ∷ eqb x.exit (x.entry + Y.dur dest) ∷ leb (x.entry + Y.dur dest) day ∷ free_b dest x.entry (x.entry + Y.dur dest) ∷ []

  abbrev stay_tests : Stay → Stay → Bool → List Bool
  stay_tests x y rest =
      ltb x.place Y.places ∷ leb (x.entry + Y.dur x.place) x.exit ∷ free_b x.place x.entry x.exit ∷ Y.link x.place y.place
      ∷ eqb x.exit y.entry ∷ not (barredb B x.place y.place x.exit) ∷ rest ∷ []

  unfoldable pub permitted_b : List Stay → Bool
  permitted_b [] = false
  permitted_b (x ∷ []) = every (last_tests x)
  permitted_b (x ∷ (y ∷ ys)) = every (stay_tests x y (permitted_b (y ∷ ys)))

  pub permitted_is : ((p u : ℕ) → p < Y.places → load B p u ≤ Y.cap p) → (plan : List Stay) → permitted_b plan ≡ true → Permitted Y B (stay_at plan 0).place dest (stay_at plan 0).entry plan
  unfolding permitted_b
  permitted_is room [] t = absurd (let z : ◌≡◌ {A = ℕ} 0 1 = cc in omega arith)
  permitted_is room (x ∷ []) t =
      let ts = last_tests x in
      let p = eqb-true x.place dest (holds ts t 0) in
      let q = eqb-true x.exit (x.entry + Y.dur dest) (holds ts t 2) in
      let P : Permitted Y B dest dest x.entry (record { place = dest; entry = x.entry; exit = x.entry + Y.dur dest } ∷ []) =
      alone (ltb-true dest Y.places (holds ts t 1)) room (leb-true (x.entry + Y.dur dest) day (holds ts t 3)) (free_is dest x.entry (x.entry + Y.dur dest) (holds ts t 4)) in
      subst (λ (z : Stay). Permitted Y B z.place dest z.entry (z ∷ [])) (λ i. record { place = sym p i; entry = x.entry; exit = sym q i }) P
  permitted_is room (x ∷ (y ∷ ys)) t =
      let ts = stay_tests x y (permitted_b (y ∷ ys)) in
      let e = eqb-true x.exit y.entry (holds ts t 4) in
      let P : Permitted Y B y.place dest x.exit (y ∷ ys) = subst (λ u. Permitted Y B y.place dest u (y ∷ ys)) (sym e) (permitted_is room (y ∷ ys) (holds ts t 6)) in
      in_front x.place x.entry P (ltb-true x.place Y.places (holds ts t 0)) (leb-true (x.entry + Y.dur x.place) x.exit (holds ts t 1)) (free_is x.place x.entry x.exit (holds ts t 2)) (holds ts t 3)
      (unbarred B x.place y.place x.exit (not-true (barredb B x.place y.place x.exit) (holds ts t 5)))
