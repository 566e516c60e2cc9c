-- The row that a fault names is a row of the book; and the rows up to it are those before it and itself.
use Rattle.std.specs.Prelude.{ℕ, suc, ◌+◌, ◌-◌, ◌≤◌, ◌≡◌, refl, ◌⊎◌, length, take}
use Rattle.std.proofs.Common.{sym, subst, inl, inr, arith, take-suc}
use mathlib.Core.List.Memᴰ
use mathlib.Core.List.{List, [], ◌∷◌, ◌++◌, Memᴰ}
use Rattle.rules.specs.declared.Row.{Row}
use Rattle.rules.specs.Map.{Yard}
use Rattle.rules.specs.Rows.{no_row, row_at, covers, bit, load}
use Rattle.rules.specs.Fault.{Fault}
use Rattle.rules.specs.Fault.Fault.{miscounted, unrising, broken, overfull, barred}
use Rattle.rules.specs.FaultLaws.{first_within}

-- 2 is said of no row, 13 to 16 of a row of the book
pub fault_row : {counts : Type 0} {Y : Yard} (rows : List Row) {n i : ℕ} → Fault counts Y rows n i
    → ((n ≡ 2) × (i ≡ 0)) ⊎ ((13 ≤ n) × (n ≤ 16) × (1 ≤ i) × (i ≤ length rows))
fault_row rows (miscounted f) = inl (refl, refl)
fault_row rows (unrising c F) = inr (omega arith, omega arith, F.from, first_within rows F)
fault_row rows (broken c R B) = inr (omega arith, omega arith, B.from, B.to)
fault_row rows (overfull c R W F) = inr (omega arith, omega arith, F.from, first_within rows F)
fault_row rows (barred c R W M F) = inr (omega arith, omega arith, F.from, first_within rows F)

-- ---- the rows up to row i

load_last : (rows : List Row) (r : Row) (p t : ℕ) → load (rows ++ (r ∷ [])) p t ≡ load rows p t + bit (covers r.place r.entry r.exit p t)
unfolding load
load_last [] r p t = omega arith
load_last (x ∷ rows) r p t = omega (arith, load_last rows r p t)

module _ (rows : List Row) (i : ℕ) (h : 1 ≤ i) (k : i ≤ length rows) where
  abbrev here : Row
  here = row_at rows (i - 1)

  up_to : take i rows ≡ take (i - 1) rows ++ (here ∷ [])
  up_to = let e : suc (i - 1) ≡ i = omega arith in subst (λ (n : ℕ). take n rows ≡ take (i - 1) rows ++ (here ∷ [])) e (take-suc rows (i - 1) no_row (omega arith))

  pub before_mem : (r : Row) → Memᴰ r (take (i - 1) rows) → Memᴰ r (take i rows)
  before_mem r m = subst (Memᴰ r) (sym up_to) (Memᴰ.append_left (here ∷ []) m)

  pub here_mem : Memᴰ here (take i rows)
  here_mem = subst (Memᴰ here) (sym up_to) (Memᴰ.append_right (take (i - 1) rows) (Memᴰ.head refl))

  pub mem_cases : (r : Row) → Memᴰ r (take i rows) → Memᴰ r (take (i - 1) rows) ⊎ Memᴰ r (here ∷ [])
  mem_cases r m = Memᴰ.append_cases (take (i - 1) rows) (subst (Memᴰ r) up_to m)

  pub load_up_to : (p t : ℕ) → load (take i rows) p t ≡ load (take (i - 1) rows) p t + bit (covers here.place here.entry here.exit p t)
  load_up_to p t = rw up_to (load_last (take (i - 1) rows) here p t)
