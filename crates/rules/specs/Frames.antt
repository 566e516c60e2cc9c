-- The program's frames: what a line means, what it prints, and how input is cut into lines.
use Rattle.std.specs.Prelude.{ℕ, zero, suc, ◌+◌, ◌/◌, ◌%◌, ◌≤◌, ◌<◌, ◌≡◌, Bool, true, false, List, [], ◌∷◌, ◌++◌, length, take, drop, set, replicate, eqb, ltb}
use Rattle.rules.specs.declared.Place.{Place}
use Rattle.rules.specs.declared.Link.{Link}
use Rattle.rules.specs.declared.Map.{Map}
use Rattle.rules.specs.declared.Book.{Book}
use Rattle.rules.specs.declared.State.{State}
use Rattle.rules.specs.Limits.{place_limit, link_limit}
use Rattle.rules.specs.Map.{zero_place, no_link}
use Rattle.rules.specs.Rows.{bit}
use Rattle.rules.specs.Book.{book_of}
use Rattle.rules.specs.Bytes.{byte_at, num3, bytes2, bytes3, place_size, place_in, link_size, link_in, row_size, list_size, key_in}
use Rattle.rules.specs.Gate.{Unless}
use Rattle.rules.specs.Answer.{Planned, Paged, Booking, Cancelling, PlanIs, BookIs, CancelIs, PageIs, answer_number, planned_arrival, planned_count, planned_rows, booked_ticket, booked_arrival, booked_count, cancelled_count, paged_count, paged_rows, paged_more}

-- "uppercase hexadecimal, two digits a byte"
abbrev pub digit_by : Bool → ℕ → ℕ
digit_by true x = 48 + x
digit_by false x = 55 + x

unfoldable pub digit : ℕ → ℕ
digit x = digit_by (ltb x 10) x

unfoldable pub hex_of : List ℕ → List ℕ
hex_of [] = []
hex_of (b ∷ bytes) = digit (b / 16) ∷ (digit (b % 16) ∷ hex_of bytes)

-- "Output lines have the same digits, each ended by a line feed."
abbrev pub line_of : List ℕ → List ℕ
line_of bytes = hex_of bytes ++ (10 ∷ [])

-- "What a line means goes by its first byte": the length of a frame of this kind, 0 where there is no such kind
abbrev pub length_by : Bool → ℕ → ℕ → ℕ
length_by true n m = n
length_by false n m = m

unfoldable pub frame_length : ℕ → ℕ
frame_length k =
    length_by (eqb k 1) (1 + place_size) (length_by (eqb k 2) (1 + link_size) (length_by (eqb k 3) 6 (length_by (eqb k 4) 6 (length_by (eqb k 5) 4 (length_by (eqb k 6) 9 0)))))

-- a line that is a frame: its bytes, and a kind and length that there are
pub record Frame (line bytes : List ℕ) : Type 0 where
  pub are_bytes : (i : ℕ) → byte_at bytes i < 256
  pub digits : line ≡ hex_of bytes
  pub some : 1 ≤ length bytes
  pub shaped : length bytes ≡ frame_length (byte_at bytes 0)

-- "`lanebook` begins with no places, no links and an empty book whose next ticket is 1."
abbrev pub empty_map : Map
empty_map = record { places = replicate place_limit zero_place; links = replicate link_limit no_link; place_count = 0; link_count = 0 }

abbrev pub begins : State
begins = record { map = empty_map; book = book_of [] 1; closed = false }

-- "A well-shaped 01 or 02 is kept": the next place, a link
abbrev pub with_place : Map → Place → Map
with_place m p = record {
  places = set m.places m.place_count p;
  links = m.links;
  place_count = m.place_count + 1;
  link_count = m.link_count;
}

abbrev pub with_link : Map → Link → Map
with_link m l = record {
  places = m.places;
  links = set m.links m.link_count l;
  place_count = m.place_count;
  link_count = m.link_count + 1;
}

-- "01 or 02 after any well-shaped frame of another kind" is refused: such a frame closes the map
abbrev pub closed_state : State → Book → State
closed_state s b = record { map = s.map; book = b; closed = true }

-- "Each frame prints its number as one byte; after 00, .."
abbrev pub after00 : ℕ → List ℕ → List ℕ
after00 zero more = 0 ∷ more
after00 (suc n) more = suc n ∷ []

-- "Row lines follow for plan and page": the first n records of a list
abbrev pub row_lines : ℕ → List ℕ → List ℕ
row_lines zero list = []
row_lines (suc n) list = line_of (take row_size list) ++ row_lines n (drop row_size list)

-- "The program's answer list has 1,280 records"
abbrev pub answer_list : List ℕ
answer_list = replicate list_size 0

-- "plan adds arrival(3) count(2), book ticket(3) arrival(3) count(2), cancel count(2), page count(1) more(1)"
abbrev pub plan_lines : Planned → List ℕ → List ℕ
plan_lines r list = line_of (after00 (answer_number r) (bytes3 (planned_arrival r) ++ bytes2 (planned_count r))) ++ row_lines (planned_rows r) list

abbrev pub book_lines : Booking → List ℕ
book_lines r = line_of (after00 (answer_number r.answer) (bytes3 (booked_ticket r.answer) ++ (bytes3 (booked_arrival r.answer) ++ bytes2 (booked_count r.answer))))

abbrev pub cancel_lines : Cancelling → List ℕ
cancel_lines r = line_of (after00 (answer_number r.answer) (bytes2 (cancelled_count r.answer)))

abbrev pub page_lines : Paged → List ℕ → List ℕ
page_lines r list = line_of (after00 (answer_number r) (paged_count r ∷ (bit (paged_more r) ∷ []))) ++ row_lines (paged_rows r) list

-- the state after, and what is printed
pub record Said (s : State) (out : List ℕ) (s' : State) (said : List ℕ) : Type 0 where
  pub next : s' ≡ s
  pub prints : said ≡ out

-- "01 capacity(1) duration(2), the next place; 02 from(1) to(1), a link; 03 plan and 04 book: start(1) destination(1) second(3);
-- 05 cancel: ticket(3); 06 page: size(1) place(1) entry(3) ticket(3)"
module _ (s : State) (bytes : List ℕ) (s' : State) (said : List ℕ) where
  -- "A line refused with 12 changes nothing."
  abbrev pub Refused12 : Type 0
  Refused12 = Said s (line_of (12 ∷ [])) s' said

  abbrev pub PlaceFrame : Type 0
  PlaceFrame =
      Unless ((s.closed ≡ false) × (s.map.place_count < place_limit)) Refused12
      (Said (record { map = with_place s.map (place_in bytes 1); book = s.book; closed = false }) (line_of (0 ∷ [])) s' said)

  abbrev pub LinkFrame : Type 0
  LinkFrame =
      Unless ((s.closed ≡ false) × (s.map.link_count < link_limit)) Refused12
      (Said (record { map = with_link s.map (link_in bytes 1); book = s.book; closed = false }) (line_of (0 ∷ [])) s' said)

  pub record PlanFrame : Type 0 where
    pub answer : Planned
    pub list : List ℕ
    pub is : PlanIs s.map s.book (byte_at bytes 1) (byte_at bytes 2) (num3 bytes 3) answer_list list answer
    pub said_so : Said (closed_state s s.book) (plan_lines answer list) s' said

  pub record BookFrame : Type 0 where
    pub answer : Booking
    pub is : BookIs s.map s.book (byte_at bytes 1) (byte_at bytes 2) (num3 bytes 3) answer
    pub said_so : Said (closed_state s answer.book) (book_lines answer) s' said

  pub record CancelFrame : Type 0 where
    pub answer : Cancelling
    pub is : CancelIs s.map s.book (num3 bytes 1) answer
    pub said_so : Said (closed_state s answer.book) (cancel_lines answer) s' said

  pub record PageFrame : Type 0 where
    pub answer : Paged
    pub list : List ℕ
    pub is : PageIs s.map s.book (byte_at bytes 1) (key_in bytes 2) answer_list list answer
    pub said_so : Said (closed_state s s.book) (page_lines answer list) s' said

  pub record FrameSays : Type 0 where
    pub place : byte_at bytes 0 ≡ 1 → PlaceFrame
    pub link : byte_at bytes 0 ≡ 2 → LinkFrame
    pub plan : byte_at bytes 0 ≡ 3 → PlanFrame
    pub book : byte_at bytes 0 ≡ 4 → BookFrame
    pub cancel : byte_at bytes 0 ≡ 5 → CancelFrame
    pub page : byte_at bytes 0 ≡ 6 → PageFrame

-- what a line answers: "Other bytes, lengths or digits, an empty line, .. are refused with 12."
pub record LineSays (s : State) (line : List ℕ) (s' : State) (said : List ℕ) : Type 0 where
  pub framed : (bytes : List ℕ) → Frame line bytes → FrameSays s bytes s' said
  pub other : ((bytes : List ℕ) → Frame line bytes → ⊥) → Said s (line_of (12 ∷ [])) s' said

-- ---- input

-- "one frame a line, .. each line ended by a line feed (the last may lack it)": the whole lines of the input that follows the bytes of a line begun,
-- and the bytes of the line that it leaves begun
unfoldable pub whole_lines : List ℕ → List ℕ → List (List ℕ)
whole_lines line [] = []
whole_lines line (c ∷ input) = elim (eqb c 10) [ true ↦ line ∷ whole_lines [] input | false ↦ whole_lines (line ++ (c ∷ [])) input ]

unfoldable pub begun_line : List ℕ → List ℕ → List ℕ
begun_line line [] = line
begun_line line (c ∷ input) = elim (eqb c 10) [ true ↦ begun_line [] input | false ↦ begun_line (line ++ (c ∷ [])) input ]

abbrev pub last_line : List ℕ → List (List ℕ)
last_line [] = []
last_line (c ∷ line) = (c ∷ line) ∷ []

-- all lines of an input
abbrev pub all_lines : List ℕ → List (List ℕ)
all_lines input = whole_lines [] input ++ last_line (begun_line [] input)

-- what lines, one after the other, make of a state, and what they print
pub data LinesSay : State → List (List ℕ) → State → List ℕ → Type 0 where
  none : {s : State} → LinesSay s [] s []
  more : {s s' s'' : State} {line said rest : List ℕ} {lines : List (List ℕ)} → LineSays s line s' said → LinesSay s' lines s'' rest → LinesSay s (line ∷ lines) s'' (said ++ rest)
