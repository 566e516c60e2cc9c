-- Lists made of a function: two that agree at each index are equal, and one of n + 1 is one of n with one more at its end.
-- A run of such a list is again such a list.
use Prim.Native.Nat.{ℕ, zero, suc, ◌+◌, ◌≤◌, ◌<◌}
use Rattle.std.specs.Prelude.{◌≡◌, take, drop}
use Rattle.std.proofs.Math.Path.{refl, ap}
use Rattle.std.proofs.Common.{sym, ◌∙◌, add-one}
use mathlib.Core.List.{List, [], ◌∷◌, ◌++◌}
use native.Mathlib.Omega.{arith}
use Rattle.laws.specs.Lists.{at, tabulate}
use Rattle.rules.specs.declared.Row.{Row}
use Rattle.flat.specs.Flat.{row_of, rows_in}

module _ {A : Type 0} where
  pub tabulate_same : (n : ℕ) (f g : ℕ → A) → ((i : ℕ) → i < n → f i ≡ g i) → tabulate n f ≡ tabulate n g
  unfolding tabulate
  tabulate_same zero f g h = refl
  tabulate_same (suc n) f g h =
      let a = h 0 (omega arith) in
      let b = tabulate_same n (λ i. f (suc i)) (λ i. g (suc i)) (λ i k. h (suc i) (omega arith)) in
      λ i. a i ∷ b i

  snoc : (n : ℕ) (f : ℕ → A) → tabulate (suc n) f ≡ tabulate n f ++ (f n ∷ [])
  unfolding tabulate
  snoc zero f = refl
  snoc (suc n) f = ap (λ (l : List A). f 0 ∷ l) (snoc n (λ i. f (suc i)))

  pub tabulate_snoc : (n : ℕ) (f : ℕ → A) → tabulate (n + 1) f ≡ tabulate n f ++ (f n ∷ [])
  tabulate_snoc n f = rw add-one (snoc n f)

  pub take_tabulate : (n m : ℕ) (f : ℕ → A) → n ≤ m → take n (tabulate m f) ≡ tabulate n f
  unfolding tabulate
  take_tabulate zero m f h = refl
  take_tabulate (suc n) zero f h = absurd (omega arith)
  take_tabulate (suc n) (suc m) f h = ap (λ (l : List A). f 0 ∷ l) (take_tabulate n m (λ i. f (suc i)) (omega arith))

  pub run_tabulate : (from n m : ℕ) (f : ℕ → A) → from + n ≤ m → take n (drop from (tabulate m f)) ≡ tabulate n (λ i. f (from + i))
  unfolding tabulate
  run_tabulate zero n m f h = take_tabulate n m f (omega arith) ∙ tabulate_same n f (λ i. f (0 + i)) (λ i k. let e : i ≡ 0 + i = omega arith in ap f e)
  run_tabulate (suc from) n zero f h = absurd (omega arith)
  run_tabulate (suc from) n (suc m) f h =
      run_tabulate from n m (λ i. f (suc i)) (omega arith)
      ∙ tabulate_same n (λ i. f (suc (from + i))) (λ i. f (suc from + i)) (λ i k. let e : suc (from + i) ≡ suc from + i = omega arith in ap f e)

-- the n rows of the arrays from an index on
abbrev pub rows_for : List ℕ → List ℕ → ℕ → ℕ → List Row
rows_for K X from n = tabulate n (λ i. row_of (at K (from + i)) (at X (from + i)))

pub rows_for_lem : (K X : List ℕ) (from n count : ℕ) → from + n ≤ count → rows_for K X from n ≡ take n (drop from (rows_in K X count))
rows_for_lem K X from n count h = sym (run_tabulate from n count (λ i. row_of (at K i) (at X i)) h)
