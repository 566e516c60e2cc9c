-- The calls' answers: the numbers of the table, their order, and what is left in the caller's list.
use Rattle.std.specs.Prelude.{ℕ, zero, suc, ◌+◌, ◌≤◌, ◌<◌, ◌≡◌, Bool, false, length, drop, Result, Ok, Err}
use mathlib.Core.List.{List, ◌++◌, Memᴰ}
use Rattle.rules.specs.declared.Row.{Row}
use Rattle.rules.specs.declared.Map.{Map}
use Rattle.rules.specs.declared.Book.{Book}
use Rattle.rules.specs.declared.Refusal.{Refusal}
use Rattle.rules.specs.declared.Refusal.TheVariants.{BadMap, BadBook, OffMap, OffDay, NoPlan, ShortList, FullBook, NoTickets, UnknownTicket, BadSize, BadCursor, BadFrame, KeysFall, BrokenRun, Overfull, Barred}
use Rattle.rules.specs.declared.Trip.{Trip}
use Rattle.rules.specs.declared.Issued.{Issued}
use Rattle.rules.specs.declared.Shown.{Shown}
use Rattle.rules.specs.declared.Change.{Change}
use Rattle.rules.specs.Limits.{day, row_limit, ticket_limit, page_limit}
use Rattle.rules.specs.Rows.{Key, cursor_key, first_key, keep, insert_all}
use Rattle.rules.specs.Page.{page_rows, page_more, last_key}
use Rattle.rules.specs.Map.{Yard, map_yard}
use Rattle.rules.specs.Plan.{Stay, arrival, Permitted, run_rows}
use Rattle.rules.specs.Book.{rows_of, book_of, of_ticket, other_ticket}
use Rattle.rules.specs.Chosen.{Chosen}
use Rattle.rules.specs.Bytes.{records, written}
use Rattle.rules.specs.Gate.{Unless, Papers, papers_of, Checked}

-- the table's numbers
abbrev pub number : Refusal → ℕ
number BadMap = 1
number BadBook = 2
number OffMap = 3
number OffDay = 4
number NoPlan = 5
number ShortList = 6
number FullBook = 7
number NoTickets = 8
number UnknownTicket = 9
number BadSize = 10
number BadCursor = 11
number BadFrame = 12
number (KeysFall i) = 13
number (BrokenRun i) = 14
number (Overfull i) = 15
number (Barred i) = 16

-- "the answer carries the number, from 1, of the first stored row": 0 beside every other number
abbrev pub fault_row : Refusal → ℕ
fault_row BadMap = 0
fault_row BadBook = 0
fault_row OffMap = 0
fault_row OffDay = 0
fault_row NoPlan = 0
fault_row ShortList = 0
fault_row FullBook = 0
fault_row NoTickets = 0
fault_row UnknownTicket = 0
fault_row BadSize = 0
fault_row BadCursor = 0
fault_row BadFrame = 0
fault_row (KeysFall i) = i
fault_row (BrokenRun i) = i
fault_row (Overfull i) = i
fault_row (Barred i) = i

-- the rows that an answer counts: none beside a refusal, whose count is the row that it names
abbrev pub rows_done : ℕ → ℕ → ℕ
rows_done zero c = c
rows_done (suc n) c = 0

-- ---- every answer: what was done, or why it is refused

abbrev pub answer_number : {A : Type 0} → Result A Refusal → ℕ
answer_number (Ok x) = 0
answer_number (Err r) = number r

-- the count of what was done, or the row that a refusal names
abbrev pub answer_count : {A : Type 0} → (A → ℕ) → Result A Refusal → ℕ
answer_count count (Ok x) = count x
answer_count count (Err r) = fault_row r

abbrev pub answer_rows : {A : Type 0} → (A → ℕ) → Result A Refusal → ℕ
answer_rows count r = rows_done (answer_number r) (answer_count count r)

-- ---- plan

abbrev pub Planned : Type 0
Planned = Result Trip Refusal

abbrev pub planned_arrival : Planned → ℕ
planned_arrival (Ok t) = t.arrival
planned_arrival (Err r) = 0

abbrev pub planned_count : Planned → ℕ
planned_count r = answer_count (λ t. t.count) r

abbrev pub planned_rows : Planned → ℕ
planned_rows r = answer_rows (λ t. t.count) r

-- the numbers returned, and what the caller's list then holds
pub record Planning {A : Type 0} (n a c : ℕ) (list out : List A) (r : Planned) : Type 0 where
  pub code : answer_number r ≡ n
  pub arrives : planned_arrival r ≡ a
  pub counts : planned_count r ≡ c
  pub holds : out ≡ list

-- "Each refusal returns its number and zeros, and lent memory stays as lent."
abbrev pub PlanRefused : {A : Type 0} → ℕ → List A → List A → Planned → Type 0
PlanRefused n was out r = Planning n 0 0 was out r

-- "Order: plan 1, 2, 3, 4, 5, 6": first what is said where map and book are sound, of a list with room for some records that holds `after` rows
-- when they are written to it
module _ {A : Type 0} (room : ℕ) (after : List Row → List A) (Y : Yard) (rows : List Row) (start dest s : ℕ) (was out : List A) (r : Planned) where
  abbrev pub PlanAnswers : Type 0
  PlanAnswers =
      Unless ((start < Y.places) × (dest < Y.places)) (PlanRefused 3 was out r)
      (Unless (s ≤ day) (PlanRefused 4 was out r)
      (Unless ((plan : List Stay) × Permitted Y rows start dest s plan) (PlanRefused 5 was out r)
      ((plan : List Stay) × Chosen Y rows start dest s plan
      × Unless (length plan ≤ room) (PlanRefused 6 was out r)
      -- "Plan: arrival, step count, and rows in travel order with ticket 0."
      (Planning 0 (arrival plan) (length plan) (after (run_rows 0 plan)) out r))))

-- a list of packed rows
abbrev pub PlanDone : List Stay → List ℕ → List ℕ → Planned → Type 0
PlanDone plan was out r = Planning 0 (arrival plan) (length plan) (written (run_rows 0 plan) was) out r

abbrev pub PlanSound : Yard → List Row → ℕ → ℕ → ℕ → List ℕ → List ℕ → Planned → Type 0
PlanSound Y rows start dest s was out r = PlanAnswers (records was) (λ l. written l was) Y rows start dest s was out r

abbrev pub PlanSays : Papers → ℕ → ℕ → ℕ → List ℕ → List ℕ → Planned → Type 0
PlanSays g start dest s was out r = Checked g (λ n i. Planning n 0 i was out r) (PlanSound g.yard g.rows start dest s was out r)

abbrev pub PlanIs : Map → Book → ℕ → ℕ → ℕ → List ℕ → List ℕ → Planned → Type 0
PlanIs m b start dest s was out r = PlanSays (papers_of m b) start dest s was out r

-- ---- book

abbrev pub Booked : Type 0
Booked = Result Issued Refusal

abbrev pub Booking : Type 0
Booking = Change Issued

abbrev pub booked_ticket : Booked → ℕ
booked_ticket (Ok i) = i.ticket
booked_ticket (Err r) = 0

abbrev pub booked_arrival : Booked → ℕ
booked_arrival (Ok i) = i.arrival
booked_arrival (Err r) = 0

abbrev pub booked_count : Booked → ℕ
booked_count r = answer_count (λ i. i.count) r

abbrev pub booked_rows : Booked → ℕ
booked_rows r = answer_rows (λ i. i.count) r

-- the numbers returned, and the book after
pub record BookingIs (n k a c : ℕ) (book : Book) (r : Booking) : Type 0 where
  pub code : answer_number r.answer ≡ n
  pub issues : booked_ticket r.answer ≡ k
  pub arrives : booked_arrival r.answer ≡ a
  pub counts : booked_count r.answer ≡ c
  pub holds : r.book ≡ book

abbrev pub BookRefused : ℕ → Book → Booking → Type 0
BookRefused n b r = BookingIs n 0 0 0 b r

-- "Book: the same plan under the next ticket, rows put in order, next ticket up by one; returns ticket, arrival and count."
abbrev pub BookDone : List Stay → Book → Booking → Type 0
BookDone plan b r =
    BookingIs 0 b.next_ticket (arrival plan) (length plan)
    (book_of (insert_all (run_rows b.next_ticket plan) (rows_of b)) (b.next_ticket + 1)) r

-- "book 1, 2, 3, 4, 8, 5, 7": first what is said where map and book are sound
module _ (Y : Yard) (rows : List Row) (b : Book) (start dest s : ℕ) (r : Booking) where
  abbrev pub BookSound : Type 0
  BookSound =
      Unless ((start < Y.places) × (dest < Y.places)) (BookRefused 3 b r)
      (Unless (s ≤ day) (BookRefused 4 b r)
      (Unless (b.next_ticket < ticket_limit) (BookRefused 8 b r)
      (Unless ((plan : List Stay) × Permitted Y rows start dest s plan) (BookRefused 5 b r)
      ((plan : List Stay) × Chosen Y rows start dest s plan
      × Unless (b.count + length plan ≤ row_limit) (BookRefused 7 b r)
      (BookDone plan b r)))))

abbrev pub BookIs : Map → Book → ℕ → ℕ → ℕ → Booking → Type 0
BookIs m b start dest s r = Checked (papers_of m b) (λ n i. BookingIs n 0 0 i b r) (BookSound (map_yard m) (rows_of b) b start dest s r)

-- ---- cancel

abbrev pub Cancelled : Type 0
Cancelled = Result ℕ Refusal

abbrev pub Cancelling : Type 0
Cancelling = Change ℕ

abbrev pub cancelled_count : Cancelled → ℕ
cancelled_count r = answer_count (λ c. c) r

pub record CancellingIs (n c : ℕ) (book : Book) (r : Cancelling) : Type 0 where
  pub code : answer_number r.answer ≡ n
  pub counts : cancelled_count r.answer ≡ c
  pub holds : r.book ≡ book

abbrev pub CancelRefused : ℕ → Book → Cancelling → Type 0
CancelRefused n b r = CancellingIs n 0 b r

-- "Cancel: removes a ticket's rows, closes the gap, returns their count"
abbrev pub CancelDone : ℕ → Book → Cancelling → Type 0
CancelDone ticket b r = CancellingIs 0 (length (keep (of_ticket ticket) (rows_of b))) (book_of (keep (other_ticket ticket) (rows_of b)) b.next_ticket) r

-- a row of the book has this ticket
pub record Known (rows : List Row) (ticket : ℕ) : Type 0 where
  pub row : Row
  pub booked : Memᴰ row rows
  pub has : row.ticket ≡ ticket

-- "cancel 1, 2, 9": first what is said where map and book are sound
abbrev pub CancelSound : Book → ℕ → Cancelling → Type 0
CancelSound b ticket r = Unless (Known (rows_of b) ticket) (CancelRefused 9 b r) (CancelDone ticket b r)

abbrev pub CancelIs : Map → Book → ℕ → Cancelling → Type 0
CancelIs m b ticket r = Checked (papers_of m b) (λ n i. CancellingIs n i b r) (CancelSound b ticket r)

-- ---- page

abbrev pub Paged : Type 0
Paged = Result Shown Refusal

abbrev pub paged_count : Paged → ℕ
paged_count r = answer_count (λ s. s.count) r

abbrev pub paged_rows : Paged → ℕ
paged_rows r = answer_rows (λ s. s.count) r

abbrev pub paged_more : Paged → Bool
paged_more (Ok s) = s.more
paged_more (Err r) = false

abbrev pub paged_cursor : Paged → Key
paged_cursor (Ok s) = cursor_key s.cursor
paged_cursor (Err r) = first_key

-- the numbers returned, and what the caller's list then holds
pub record PagingIs {A : Type 0} (n c : ℕ) (more : Bool) (k : Key) (list out : List A) (r : Paged) : Type 0 where
  pub code : answer_number r ≡ n
  pub counts : paged_count r ≡ c
  pub says : paged_more r ≡ more
  pub hands : paged_cursor r ≡ k
  pub holds : out ≡ list

abbrev pub PageRefused : {A : Type 0} → ℕ → List A → List A → Paged → Type 0
PageRefused n was out r = PagingIs n 0 false first_key was out r

-- "11: cursor place not on the map, entry above 86,400 or ticket above 999,999"
pub record CursorFits (Y : Yard) (k : Key) : Type 0 where
  pub place : k.place < Y.places
  pub entry : k.entry ≤ day
  pub ticket : k.ticket < ticket_limit

-- "page 1, 2, 10, 11, 6": first what is said where map and book are sound, of a list as for a plan
module _ {A : Type 0} (room : ℕ) (after : List Row → List A) (Y : Yard) (rows : List Row) (size : ℕ) (k : Key) (was out : List A) (r : Paged) where
  abbrev pub PageAnswers : Type 0
  PageAnswers =
      Unless ((1 ≤ size) × (size ≤ page_limit)) (PageRefused 10 was out r)
      (Unless (CursorFits Y k) (PageRefused 11 was out r)
      (Unless (size ≤ room) (PageRefused 6 was out r)
      -- "out come the rows with keys above the cursor, .. with their count and whether the book has more after them"
      (PagingIs 0 (length (page_rows size k rows)) (page_more size k rows) (last_key k (page_rows size k rows)) (after (page_rows size k rows)) out r)))

-- a list of packed rows
abbrev pub PageDone : List Row → ℕ → Key → List ℕ → List ℕ → Paged → Type 0
PageDone rows size k was out r =
    PagingIs 0 (length (page_rows size k rows)) (page_more size k rows) (last_key k (page_rows size k rows)) (written (page_rows size k rows) was) out r

abbrev pub PageSound : Yard → List Row → ℕ → Key → List ℕ → List ℕ → Paged → Type 0
PageSound Y rows size k was out r = PageAnswers (records was) (λ l. written l was) Y rows size k was out r

abbrev pub PageSays : Papers → ℕ → Key → List ℕ → List ℕ → Paged → Type 0
PageSays g size k was out r = Checked g (λ n i. PagingIs n i false first_key was out r) (PageSound g.yard g.rows size k was out r)

abbrev pub PageIs : Map → Book → ℕ → Key → List ℕ → List ℕ → Paged → Type 0
PageIs m b size k was out r = PageSays (papers_of m b) size k was out r

-- ---- the caller's list as row records

-- "records past the count keep their values"
abbrev pub over : List Row → List Row → List Row
over was rows = rows ++ drop (length rows) was

abbrev pub PlanRecords : Map → Book → ℕ → ℕ → ℕ → List Row → List Row → Planned → Type 0
PlanRecords m b start dest s was out r =
    Checked (papers_of m b) (λ n i. Planning n 0 i was out r) (PlanAnswers (length was) (over was) (map_yard m) (rows_of b) start dest s was out r)

abbrev pub PageRecords : Map → Book → ℕ → Key → List Row → List Row → Paged → Type 0
PageRecords m b size k was out r =
    Checked (papers_of m b) (λ n i. PagingIs n i false first_key was out r) (PageAnswers (length was) (over was) (map_yard m) (rows_of b) size k was out r)
