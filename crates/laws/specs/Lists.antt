-- A list made of a function, and members by index.
use Prim.Native.Nat.{ℕ, zero, suc, ◌<◌}
use Rattle.std.specs.Prelude.{◌≡◌, length, get_or, replicate}
use Rattle.std.proofs.Math.Path.{refl, ap}
use Rattle.std.proofs.Common.{sym, arith}
use mathlib.Core.List.{List, [], ◌∷◌, Memᴰ}

-- the number at an index, 0 past the end
abbrev pub at : List ℕ → ℕ → ℕ
at l i = get_or l i 0

-- f 0, f 1 and so on, n of them
unfoldable pub tabulate : {A : Type 0} → ℕ → (ℕ → A) → List A
tabulate zero f = []
tabulate (suc n) f = f 0 ∷ tabulate n (λ i. f (suc i))

module _ {A : Type 0} where
  pub length_tabulate : (n : ℕ) (f : ℕ → A) → length (tabulate n f) ≡ n
  unfolding tabulate
  length_tabulate zero f = refl
  length_tabulate (suc n) f = ap suc (length_tabulate n (λ i. f (suc i)))

  pub get_or_tabulate : (n : ℕ) (f : ℕ → A) (i : ℕ) (d : A) → i < n → get_or (tabulate n f) i d ≡ f i
  unfolding tabulate
  get_or_tabulate zero f i d h = absurd (omega arith)
  get_or_tabulate (suc n) f zero d h = refl
  get_or_tabulate (suc n) f (suc i) d h = get_or_tabulate n (λ i. f (suc i)) i d (omega arith)

  -- a member stands at an index, and what stands at an index is a member
  pub mem_index : (d : A) {x : A} {xs : List A} → Memᴰ x xs → (i : ℕ) × (i < length xs) × (get_or xs i d ≡ x)
  mem_index d (Memᴰ.head e) = (0, omega arith, sym e)
  mem_index d (Memᴰ.tail m) = let r = mem_index d m in (suc r.0, omega (arith, r.1), r.2)

  pub index_mem : (d : A) (xs : List A) (i : ℕ) → i < length xs → Memᴰ (get_or xs i d) xs
  index_mem d [] i h = absurd (omega arith)
  index_mem d (x ∷ xs) zero h = Memᴰ.head refl
  index_mem d (x ∷ xs) (suc i) h = Memᴰ.tail (index_mem d xs i (omega arith))

-- an array filled with zeros
pub zeros : (n i : ℕ) → at (replicate n 0) i ≡ 0
zeros zero i = refl
zeros (suc n) zero = refl
zeros (suc n) (suc i) = zeros n i
