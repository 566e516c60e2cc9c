-- A walk over one book: pages, each from the cursor that the page before handed back, with whatever others do in between. Every event is
-- a call that keeps its contract, and what a walk shows is what its caller reads in the answers.
use Rattle.std.specs.Prelude.{ℕ, ◌+◌, ◌≤◌, ◌<◌, ◌≡◌, true, false, length, get_or}
use mathlib.Core.List.{List, [], ◌∷◌, ◌++◌, Memᴰ}
use Rattle.rules.specs.declared.Row.{Row}
use Rattle.rules.specs.declared.Map.{Map}
use Rattle.rules.specs.declared.Book.{Book}
use Rattle.rules.specs.Rows.{Key, row_key, first_key, row_at, Rising}
use Rattle.rules.specs.Book.{rows_of}
use Rattle.rules.specs.Bytes.{rows_from}
use Rattle.rules.specs.Answer.{Planned, Booking, Cancelling, Paged, PlanIs, BookIs, CancelIs, PageIs, booked_rows, answer_number, paged_count, paged_more, paged_cursor}

-- ---- the events, all over one map

module _ (m : Map) where
  -- a page of book b, asked with cursor k and not refused
  pub record Page (b : Book) (k : Key) : Type 0 where
    pub size : ℕ
    pub list : List ℕ
    pub out : List ℕ
    pub answer : Paged
    pub call : PageIs m b size k list out answer
    pub done : answer_number answer ≡ 0

  -- what is done between two pages, from book b to book c: any calls, in any order and number, refused or not
  pub data Others : Book → Book → Type 0 where
    -- nothing more
    rests : {b : Book} → Others b b
    -- a plan is asked for; the book stays
    plans : {b c : Book} {start dest s : ℕ} {list out : List ℕ} {r : Planned} → PlanIs m b start dest s list out r → Others b c → Others b c
    -- a run is booked; the book is now the one that the call returns
    books : {b c : Book} {start dest s : ℕ} {r : Booking} → BookIs m b start dest s r → Others r.book c → Others b c
    -- a ticket is cancelled; the book is now the one that the call returns
    cancels : {b c : Book} {ticket : ℕ} {r : Cancelling} → CancelIs m b ticket r → Others r.book c → Others b c
    -- a page is asked for that is no part of the walk, a refused one or another reader's; the book stays
    looks : {b c : Book} {size : ℕ} {k : Key} {list out : List ℕ} {r : Paged} → PageIs m b size k list out r → Others b c → Others b c

  -- a walk from cursor k on, its next page being asked of book b
  pub data Walk : Key → Book → Type 0 where
    -- a page that says no more is the last
    ends : {k : Key} {b : Book} (p : Page b k) → paged_more p.answer ≡ false → Walk k b
    -- after a page that says more, others do something, and the walk goes on with the cursor that the page handed back
    goes : {k : Key} {b c : Book} (p : Page b k) → paged_more p.answer ≡ true → Others b c → Walk (paged_cursor p.answer) c → Walk k b

-- ---- what there is to say of a walk

-- what a page shows: as many rows as it counts, read from the caller's list
abbrev pub shows_of : {m : Map} {b : Book} {k : Key} → Page m b k → List Row
shows_of p = rows_from p.out 0 (paged_count p.answer)

-- of one page: the rows that stood in the book when it was asked, and those that it shows
pub record Seen : Type 0 where
  pub standing : List Row
  pub shows : List Row

abbrev pub seen : {m : Map} {b : Book} {k : Key} → Page m b k → Seen
seen {m} {b} p = record { standing = rows_of b; shows = shows_of p }

-- the pages of a walk
abbrev pub pages : {m : Map} {k : Key} {b : Book} → Walk m k b → List Seen
pages (ends p e) = seen p ∷ []
pages (goes p e o w) = seen p ∷ pages w

-- all the rows that they show, in order
abbrev pub shown : List Seen → List Row
shown [] = []
shown (p ∷ ps) = p.shows ++ shown ps

-- how many rows others booked during it, as the bookings count them
abbrev pub booked_by : {m : Map} {b c : Book} → Others m b c → ℕ
booked_by rests = 0
booked_by (plans h o) = booked_by o
booked_by (books {r = r} h o) = booked_rows r.answer + booked_by o
booked_by (cancels h o) = booked_by o
booked_by (looks h o) = booked_by o

abbrev pub booked : {m : Map} {k : Key} {b : Book} → Walk m k b → ℕ
booked (ends p e) = 0
booked (goes p e o w) = booked_by o + booked w

abbrev pub no_page : Seen
no_page = record { standing = []; shows = [] }

abbrev pub page_at : List Seen → ℕ → Seen
page_at ps i = get_or ps i no_page

-- a row stood in the book whenever a page was asked
abbrev pub Stood : Row → List Seen → Type 0
Stood x ps = (i : ℕ) → i < length ps → Memᴰ x (page_at ps i).standing

-- a row is shown at one index, and no row of its key at another
pub record ShownOnce (x : Row) (rows : List Row) : Type 0 where
  pub at : ℕ
  pub within : at < length rows
  pub is : row_at rows at ≡ x
  pub only : (j : ℕ) → j < length rows → row_key (row_at rows j) ≡ row_key x → j ≡ at

-- "Take a walk over one book from the first cursor to a page that says no more, each cursor being the last row shown, while others plan, book
-- and cancel between pages."
pub record Walked {m : Map} {b : Book} (w : Walk m first_key b) : Type 0 where
  -- "Each row that stood from first page to last is shown exactly once"
  pub stood : (x : Row) → Stood x (pages w) → ShownOnce x (shown (pages w))
  -- "no row is shown twice"
  pub once : (i j : ℕ) → i < j → j < length (shown (pages w)) → row_key (row_at (shown (pages w)) i) ≡ row_key (row_at (shown (pages w)) j) → ⊥
  -- "each row shown stood in the book when its page was asked"
  pub asked : (i : ℕ) → i < length (pages w) → (x : Row) → Memᴰ x (page_at (pages w) i).shows → Memᴰ x (page_at (pages w) i).standing
  -- "keys rise throughout"
  pub rises : Rising (shown (pages w))
  -- "The walk has at most one page more than the rows at its start plus the rows booked during it."
  pub few : length (pages w) ≤ 1 + (length (rows_of b) + booked w)
