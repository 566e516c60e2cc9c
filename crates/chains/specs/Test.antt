-- The test that a ticket's rows are a whole plan, row by row.
use Rattle.std.specs.Prelude.{ℕ, ◌+◌, ◌≤◌, ◌<◌, ◌≡◌, true}
use mathlib.Core.List.{List, Memᴰ}
use Rattle.rules.specs.declared.Row.{Row}
use Rattle.rules.specs.Limits.{day}
use Rattle.rules.specs.Map.{Yard}

abbrev pub Last : Row → Type 0
Last r = r.next ≡ r.place

-- s has the key (next, exit, ticket) of r
pub record Follows (r s : Row) : Type 0 where
  pub place : s.place ≡ r.next
  pub entry : s.entry ≡ r.exit
  pub ticket : s.ticket ≡ r.ticket

pub record Successor (l : List Row) (r : Row) : Type 0 where
  pub row : Row
  pub in_book : Memᴰ row l
  pub follows : Follows r row

-- what is asked of one row
pub record RowOk (Y : Yard) (l : List Row) (r : Row) : Type 0 where
  pub on_map : r.place < Y.places
  pub in_day : r.exit ≤ day
  pub lasts : r.entry + Y.dur r.place ≤ r.exit
  pub exact : Last r → r.exit ≡ r.entry + Y.dur r.place
  pub linked : (Last r → ⊥) → Y.link r.place r.next ≡ true
  pub joined : (Last r → ⊥) → Successor l r

-- what is asked of the rows of ticket k
pub record Tested (Y : Yard) (l : List Row) (k : ℕ) : Type 0 where
  pub each : (r : Row) → Memᴰ r l → r.ticket ≡ k → RowOk Y l r
  -- no two of them have the same successor
  pub one_before : (r s : Row) → Memᴰ r l → Memᴰ s l → r.ticket ≡ k → s.ticket ≡ k → (Last r → ⊥) → (Last s → ⊥)
      → r.next ≡ s.next → r.exit ≡ s.exit → r ≡ s
  -- no two of them are last
  pub one_last : (r s : Row) → Memᴰ r l → Memᴰ s l → r.ticket ≡ k → s.ticket ≡ k → Last r → Last s → r ≡ s
