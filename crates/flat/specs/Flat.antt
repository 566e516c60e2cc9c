-- What the arrays of numbers stand for: places, links, rows, windows.
use Rattle.std.specs.Prelude.{ℕ, zero, suc, ◌+◌, ◌*◌, ◌/◌, ◌%◌, ◌≤◌, ◌<◌, ◌≡◌, true, false, List, eqb}
use Rattle.laws.specs.Lists.{at, tabulate}
use Rattle.rules.specs.declared.Place.{Place}
use Rattle.rules.specs.declared.Link.{Link}
use Rattle.rules.specs.declared.Row.{Row}
use Rattle.rules.specs.Map.{Yard, yard_of, MapRules}
use Rattle.rules.specs.Rows.{row}
use Rattle.rules.specs.Book.{Counted}
use Rattle.rules.specs.Gate.{Papers}
use Rattle.rules.specs.Window.{Span}
use Rattle.flat.specs.declared.Yard.{Yard as Arrays}
use Rattle.flat.specs.declared.Rows.{Rows}

-- ---- the map: capacity C and duration D of each place, from F and to T of each link

abbrev pub one_place : List ℕ → List ℕ → ℕ → Place
one_place C D p = record { capacity = at C p; duration = at D p }

abbrev pub places_in : List ℕ → List ℕ → ℕ → List Place
places_in C D n = tabulate n (one_place C D)

abbrev pub one_link : List ℕ → List ℕ → ℕ → Link
one_link F T j = record { from = at F j; to = at T j }

abbrev pub links_in : List ℕ → List ℕ → ℕ → List Link
links_in F T k = tabulate k (one_link F T)

abbrev pub yard_in : List ℕ → List ℕ → ℕ → List ℕ → List ℕ → ℕ → Yard
yard_in C D n F T k = yard_of (places_in C D n) (links_in F T k)

-- a yard that has the places of the arrays, whatever its links
pub record Of (Y : Yard) (C D : List ℕ) (n : ℕ) : Type 0 where
  pub places : Y.places ≡ n
  pub caps : (p : ℕ) → p < n → Y.cap p ≡ at C p
  pub durs : (p : ℕ) → p < n → Y.dur p ≡ at D p
  pub off : (p : ℕ) → n ≤ p → Y.cap p ≡ 0
  pub long : (p : ℕ) → 0 < Y.dur p

-- one more than the last of the first k links that leaves p, 0 where none does
unfoldable pub last_before : List ℕ → ℕ → ℕ → ℕ
last_before F p zero = 0
last_before F p (suc k) = elim (eqb (at F k) p) [ true ↦ suc k | false ↦ last_before F p k ]

-- links by place: H has each place's last link, N each link's one before it of the same place, each with one added
pub record Chained (F : List ℕ) (k : ℕ) (H N : List ℕ) : Type 0 where
  pub head : (p : ℕ) → p < 256 → at H p ≡ last_before F p k
  pub link : (j : ℕ) → j < k → at N j ≡ last_before F (at F j) j

-- ---- the book: a row is a key and a tail. A key is place * 2^48 + entry * 2^24 + ticket, so that key order is number order

abbrev pub place_of : ℕ → ℕ
place_of key = key / 281474976710656

abbrev pub entry_of : ℕ → ℕ
entry_of key = key / 16777216 % 16777216

abbrev pub ticket_of : ℕ → ℕ
ticket_of key = key % 16777216

abbrev pub key_of : ℕ → ℕ → ℕ → ℕ
key_of place entry ticket = place * 281474976710656 + entry * 16777216 + ticket

-- a place below 256, an entry and a ticket of three bytes
abbrev pub key_limit : ℕ
key_limit = 72057594037927936

-- a tail is exit * 2^8 + next place

abbrev pub exit_of : ℕ → ℕ
exit_of tail = tail / 256

abbrev pub next_value : ℕ → ℕ
next_value tail = tail % 256

abbrev pub tail_value : ℕ → ℕ → ℕ
tail_value exit next = exit * 256 + next

abbrev pub row_of : ℕ → ℕ → Row
row_of key tail = row (place_of key) (entry_of key) (ticket_of key) (exit_of tail) (next_value tail)

-- the rows of keys K and tails X
abbrev pub rows_in : List ℕ → List ℕ → ℕ → List Row
rows_in K X count = tabulate count (λ i. row_of (at K i) (at X i))

pub record Packed (K : List ℕ) : Type 0 where
  pub keys : (i : ℕ) → at K i < key_limit

-- keys strictly rising as numbers
pub record KeysRise (K : List ℕ) (count : ℕ) : Type 0 where
  pub rise : (i j : ℕ) → i < j → j < count → at K i < at K j

-- map and book as the arrays hold them
abbrev pub papers_in : (C D F T : List ℕ) (n k : ℕ) (K X : List ℕ) (count next-ticket : ℕ) → Papers
papers_in C D F T n k K X count next-ticket = record {
  map_good = MapRules (places_in C D n) (links_in F T k);
  counted = Counted (yard_in C D n F T k) (rows_in K X count) next-ticket;
  yard = yard_in C D n F T k;
  rows = rows_in K X count;
}

-- what a yard's and a book's arrays hold, as they are lent together

abbrev pub yard_held : Arrays → Yard
yard_held y = yard_in y.cap y.dur y.places y.from y.to y.links

abbrev pub rows_held : Rows → List Row
rows_held r = rows_in r.key r.tail r.count

abbrev pub papers_held : Arrays → Rows → Papers
papers_held y r = papers_in y.cap y.dur y.from y.to y.places y.links r.key r.tail r.count r.next_ticket

-- ---- windows: place P, first second S, end E

abbrev pub span_at : List ℕ → List ℕ → List ℕ → ℕ → Span
span_at P S E i = record { place = at P i; from = at S i; to = at E i }

-- things in order of place: those of p are numbered from at F p to at F (p + 1)
pub record Grouped (place : ℕ → ℕ) (F : List ℕ) (n w : ℕ) : Type 0 where
  pub begins : at F 0 ≡ 0
  pub ends : at F n ≡ w
  pub up : (p : ℕ) → p < n → at F p ≤ at F (p + 1)
  pub of : (p i : ℕ) → p < n → at F p ≤ i → i < at F (p + 1) → place i ≡ p
