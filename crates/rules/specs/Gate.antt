-- The order of the refusals, and the gate that every call passes first: a good map, then a good book.
use Rattle.std.specs.Prelude.{ℕ, ◌⊎◌, List}
use Rattle.rules.specs.declared.Row.{Row}
use Rattle.rules.specs.declared.Map.{Map}
use Rattle.rules.specs.declared.Book.{Book}
use Rattle.rules.specs.Map.{Yard, GoodMap, map_yard}
use Rattle.rules.specs.Book.{Formed, CountedBook, rows_of}
use Rattle.rules.specs.Fault.{Fault}

-- "A number is given exactly when its condition holds and none before it in the call's order does":
-- `bad` where `ok` does not hold, and `rest` where it does
abbrev pub Unless : Type 0 → Type 0 → Type 0 → Type 0
Unless ok bad rest = ((ok → ⊥) × bad) ⊎ (ok × rest)

-- a map and a book in the form in which a call is given them: when the map is good, when the book's counts and numbers are, and the yard and the rows
-- that they stand for
pub record Papers : Type 1 where
  pub map_good : Type 0
  pub counted : Type 0
  pub yard : Yard
  pub rows : List Row

abbrev pub BookGood : Papers → Type 0
BookGood g = Formed g.counted g.yard g.rows

-- by value
abbrev pub papers_of : Map → Book → Papers
papers_of m b = record { map_good = GoodMap m; counted = CountedBook (map_yard m) b; yard = map_yard m; rows = rows_of b }

-- "plan 1, 2, ..", "book 1, 2, ..", "cancel 1, 2, ..", "page 1, 2, ..": refused with 1 unless the map is good, then by what is wrong with the book and at
-- its row, then the rest
pub data Checked (g : Papers) (refused : ℕ → ℕ → Type 0) (rest : Type 0) : Type 0 where
  bad_map : (g.map_good → ⊥) → refused 1 0 → Checked g refused rest
  bad_book : {n i : ℕ} → g.map_good → Fault g.counted g.yard g.rows n i → refused n i → Checked g refused rest
  sound : g.map_good → BookGood g → rest → Checked g refused rest
