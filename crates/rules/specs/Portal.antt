-- The advisers' portal: map, book and answers as byte slices, numbers high byte first.
use Rattle.std.specs.Prelude.{ℕ, ◌+◌, ◌*◌, ◌≤◌, ◌≡◌, List, length}
use Rattle.rules.specs.declared.Place.{Place}
use Rattle.rules.specs.declared.Link.{Link}
use Rattle.rules.specs.declared.Row.{Row}
use Rattle.rules.specs.Map.{Yard, yard_of, MapRules}
use Rattle.rules.specs.Rows.{Key, bit}
use Rattle.rules.specs.Book.{Formed, Counted}
use Rattle.rules.specs.Bytes.{num2, num3, place_size, places_from, link_size, links_from, row_size, rows_from}
use Rattle.rules.specs.Gate.{Papers}
use Rattle.rules.specs.Answer.{Planned, Paged, PlanSays, PageSays, answer_number, planned_arrival, planned_count, paged_count, paged_more}

-- "A map slice is place count(2), link count(2), then places and links as in frames 01 and 02 without their first byte"
abbrev pub slice_places : List ℕ → List Place
slice_places s = places_from s 4 (num2 s 0)

abbrev pub slice_links : List ℕ → List Link
slice_links s = links_from s (4 + place_size * num2 s 0) (num2 s 2)

abbrev pub slice_yard : List ℕ → Yard
slice_yard s = yard_of (slice_places s) (slice_links s)

-- "A map slice of a length that its counts don't give is refused with 1"
pub record MapSlice (s : List ℕ) : Type 0 where
  pub counts : 4 ≤ length s
  pub fits : length s ≡ 4 + place_size * num2 s 0 + link_size * num2 s 2
  pub rules : MapRules (slice_places s) (slice_links s)

-- "a book slice is next ticket(3), count(2), then the rows, without spare slots"
abbrev pub slice_rows : List ℕ → List Row
slice_rows s = rows_from s 5 (num2 s 3)

abbrev pub slice_ticket : List ℕ → ℕ
slice_ticket s = num3 s 0

-- "such a book slice with 2"
pub record CountedSlice (Y : Yard) (s : List ℕ) : Type 0 where
  pub head : 5 ≤ length s
  pub fits : length s ≡ 5 + row_size * num2 s 3
  pub counts : Counted Y (slice_rows s) (slice_ticket s)

abbrev pub BookSlice : Yard → List ℕ → Type 0
BookSlice Y s = Formed (CountedSlice Y s) Y (slice_rows s)

abbrev pub slice_papers : List ℕ → List ℕ → Papers
slice_papers map book = record { map_good = MapSlice map; counted = CountedSlice (slice_yard map) book; yard = slice_yard map; rows = slice_rows book }

-- "The result is one number: the refusal number times 2^32, plus, when done, arrival (for a page: more, 1 or 0) times 2,048 plus count."
-- "In the portal's number the row stands as the count."
abbrev pub one_number : ℕ → ℕ → ℕ → ℕ
one_number n a c = n * 4294967296 + (a * 2048 + c)

pub record PortalPlan (map book : List ℕ) (start dest s : ℕ) (was out : List ℕ) (r : ℕ) : Type 0 where
  pub answer : Planned
  pub says : PlanSays (slice_papers map book) start dest s was out answer
  pub result : r ≡ one_number (answer_number answer) (planned_arrival answer) (planned_count answer)

pub record PortalPage (map book : List ℕ) (size : ℕ) (k : Key) (was out : List ℕ) (r : ℕ) : Type 0 where
  pub answer : Paged
  pub says : PageSays (slice_papers map book) size k was out answer
  pub result : r ≡ one_number (answer_number answer) (bit (paged_more answer)) (paged_count answer)
