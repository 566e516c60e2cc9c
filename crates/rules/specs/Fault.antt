-- What is wrong with a book: the number of the first check that it fails, and the row, from 1, at which it shows.
use Rattle.std.specs.Prelude.{ℕ, ◌-◌, ◌≤◌, ◌<◌, ◌≡◌, length, take}
use mathlib.Core.List.{List, Memᴰ}
use Rattle.rules.specs.declared.Row.{Row}
use Rattle.rules.specs.Map.{Yard}
use Rattle.rules.specs.Rows.{row_at, Rising}
use Rattle.rules.specs.Book.{Whole, AllWhole, Room, Unbarred}

-- "the number, from 1, of the first stored row at which that check cannot be met by the rows up to and including it"
pub record FirstBad (P : List Row → Type 0) (rows : List Row) (i : ℕ) : Type 0 where
  pub from : 1 ≤ i
  pub good : P (take (i - 1) rows)
  pub bad : P (take i rows) → ⊥

-- "for a broken run it is the first row of the lowest such ticket": the ticket of row i is no whole plan, every lower one is, and no row before is of it
pub record BrokenAt (Y : Yard) (rows : List Row) (i : ℕ) : Type 0 where
  pub from : 1 ≤ i
  pub to : i ≤ length rows
  pub broken : Whole Y rows (row_at rows (i - 1)).ticket → ⊥
  pub lower : (r : Row) → Memᴰ r rows → r.ticket < (row_at rows (i - 1)).ticket → Whole Y rows r.ticket
  pub first : (j : ℕ) → j < i - 1 → (row_at rows j).ticket ≡ (row_at rows (i - 1)).ticket → ⊥

-- "Checks go over the whole book in the order below": each is asked only where all before it hold.
-- "Refusal 2 stays for counts, ranges, spare slots and the next ticket number, with row 0." "13 keys not rising, 14 a ticket's rows are no plan,
-- 15 a place overfilled, 16 a barred crossing."
pub data Fault (counts : Type 0) (Y : Yard) (rows : List Row) : ℕ → ℕ → Type 0 where
  miscounted : (counts → ⊥) → Fault counts Y rows 2 0
  unrising : {i : ℕ} → counts → FirstBad Rising rows i → Fault counts Y rows 13 i
  broken : {i : ℕ} → counts → Rising rows → BrokenAt Y rows i → Fault counts Y rows 14 i
  overfull : {i : ℕ} → counts → Rising rows → AllWhole Y rows → FirstBad (Room Y) rows i → Fault counts Y rows 15 i
  barred : {i : ℕ} → counts → Rising rows → AllWhole Y rows → Room Y rows → FirstBad Unbarred rows i → Fault counts Y rows 16 i
