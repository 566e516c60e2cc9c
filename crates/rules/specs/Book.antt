-- The book, and when it is well formed.
use Rattle.std.specs.Prelude.{ℕ, ◌-◌, ◌≤◌, ◌<◌, ◌≡◌, Bool, not, length, take, replicate, eqb}
use mathlib.Core.List.{List, ◌++◌, Memᴰ}
use Rattle.rules.specs.declared.Row.{Row}
use Rattle.rules.specs.declared.Book.{Book}
use Rattle.rules.specs.Limits.{day, row_limit, ticket_limit}
use Rattle.rules.specs.Map.{Yard}
use Rattle.rules.specs.Rows.{no_row, row_at, Rising, load, Barred}
use Rattle.rules.specs.Plan.{Stay, Plan, run_rows}

-- "A row's ranges are: place and next on the map, entry and exit to 86,400, ticket at least 1 and below the next number."
pub record Ranges (Y : Yard) (next-ticket : ℕ) (r : Row) : Type 0 where
  pub place : r.place < Y.places
  pub next : r.next < Y.places
  pub entry : r.entry ≤ day
  pub exit : r.exit ≤ day
  pub ticket_from : 1 ≤ r.ticket
  pub ticket_to : r.ticket < next-ticket

-- a ticket's rows are a whole plan: the plan's rows are booked, and no others of this ticket
pub record Whole (Y : Yard) (rows : List Row) (ticket : ℕ) : Type 0 where
  pub plan : List Stay
  pub is_plan : Plan Y plan
  pub booked : (r : Row) → Memᴰ r (run_rows ticket plan) → Memᴰ r rows
  pub only : (r : Row) → Memᴰ r rows → r.ticket ≡ ticket → Memᴰ r (run_rows ticket plan)

-- "A well-formed book has each ticket's rows as a whole plan of its own on the map (the second s being its first entry)"
abbrev pub AllWhole : Yard → List Row → Type 0
AllWhole Y rows = (r : Row) → Memᴰ r rows → Whole Y rows r.ticket

-- "with load .. kept among all rows"
abbrev pub Room : Yard → List Row → Type 0
Room Y rows = (p t : ℕ) → p < Y.places → load rows p t ≤ Y.cap p

-- ".. and exchange": no row that goes on is barred among these rows
abbrev pub Unbarred : List Row → Type 0
Unbarred rows = (r : Row) → Memᴰ r rows → (r.next ≡ r.place → ⊥) → Barred rows r.place r.next r.exit → ⊥

-- what is asked of a book in any of its forms: first its counts and numbers, as `counts` says it of the form, then its rows
pub record Formed (counts : Type 0) (Y : Yard) (rows : List Row) : Type 0 where
  pub counted : counts
  -- "in strictly rising key order"
  pub rising : Rising rows
  pub whole : AllWhole Y rows
  pub room : Room Y rows
  pub exchange : Unbarred rows

-- "Refusal 2 stays for counts, ranges, spare slots and the next ticket number": of rows alone, without spare slots.
-- "A book holds at most 1,024 rows .., and the next ticket number, 1 to 1,000,000."
pub record Counted (Y : Yard) (rows : List Row) (next-ticket : ℕ) : Type 0 where
  pub few : length rows ≤ row_limit
  pub ticket_from : 1 ≤ next-ticket
  pub ticket_to : next-ticket ≤ ticket_limit
  pub ranges : (i : ℕ) → i < length rows → Ranges Y next-ticket (row_at rows i)

abbrev pub WellFormed : Yard → List Row → ℕ → Type 0
WellFormed Y rows next-ticket = Formed (Counted Y rows next-ticket) Y rows

-- the rows of the array form, those that the count names
abbrev pub rows_of : Book → List Row
rows_of b = take b.count b.rows

pub record CountedBook (Y : Yard) (b : Book) : Type 0 where
  pub fits : b.count ≤ row_limit
  -- "Slots past the count hold zeros."
  pub spare : (i : ℕ) → b.count ≤ i → i < row_limit → row_at b.rows i ≡ no_row
  pub counts : Counted Y (rows_of b) b.next_ticket

abbrev pub GoodBook : Yard → Book → Type 0
GoodBook Y b = Formed (CountedBook Y b) Y (rows_of b)

-- the array form of these rows
abbrev pub book_of : List Row → ℕ → Book
book_of rows next-ticket = record { rows = rows ++ replicate (row_limit - length rows) no_row; count = length rows; next_ticket = next-ticket }

-- the rows of a ticket, and the others
abbrev pub of_ticket : ℕ → Row → Bool
of_ticket ticket r = eqb r.ticket ticket

abbrev pub other_ticket : ℕ → Row → Bool
other_ticket ticket r = not (of_ticket ticket r)
