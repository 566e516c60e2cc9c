-- How numbers, rows, places and links stand as bytes, the same in frames, slices and answers: numbers high byte first.
use Rattle.std.specs.Prelude.{ℕ, zero, suc, ◌+◌, ◌*◌, ◌/◌, ◌%◌, List, [], ◌∷◌, ◌++◌, length, get_or, drop}
use Rattle.rules.specs.declared.Place.{Place}
use Rattle.rules.specs.declared.Link.{Link}
use Rattle.rules.specs.declared.Row.{Row}
use Rattle.rules.specs.Limits.{plan_limit}
use Rattle.rules.specs.Rows.{Key, row}

-- ---- numbers

abbrev pub byte_at : List ℕ → ℕ → ℕ
byte_at s at = get_or s at 0

abbrev pub num2 : List ℕ → ℕ → ℕ
num2 s at = byte_at s at * 256 + byte_at s (at + 1)

abbrev pub num3 : List ℕ → ℕ → ℕ
num3 s at = byte_at s at * 65536 + byte_at s (at + 1) * 256 + byte_at s (at + 2)

abbrev pub bytes1 : ℕ → List ℕ
bytes1 x = x % 256 ∷ []

abbrev pub bytes2 : ℕ → List ℕ
bytes2 x = x / 256 % 256 ∷ bytes1 x

abbrev pub bytes3 : ℕ → List ℕ
bytes3 x = x / 65536 % 256 ∷ bytes2 x

-- three bytes hold the numbers below this
abbrev pub field_limit : ℕ
field_limit = 16777216

-- ---- places and links

-- "capacity(1) duration(2)"
abbrev pub place_size : ℕ
place_size = 3

abbrev pub place_in : List ℕ → ℕ → Place
place_in s at = record { capacity = byte_at s at; duration = num2 s (at + 1) }

abbrev pub places_from : List ℕ → ℕ → ℕ → List Place
places_from s at zero = []
places_from s at (suc n) = place_in s at ∷ places_from s (at + place_size) n

-- "from(1) to(1)"
abbrev pub link_size : ℕ
link_size = 2

abbrev pub link_in : List ℕ → ℕ → Link
link_in s at = record { from = byte_at s at; to = byte_at s (at + 1) }

abbrev pub links_from : List ℕ → ℕ → ℕ → List Link
links_from s at zero = []
links_from s at (suc n) = link_in s at ∷ links_from s (at + link_size) n

-- ---- rows

-- "place(1) entry(3) ticket(3) exit(3) next(1)"
abbrev pub row_size : ℕ
row_size = 11

abbrev pub row_bytes : Row → List ℕ
row_bytes r = bytes1 r.place ++ (bytes3 r.entry ++ (bytes3 r.ticket ++ (bytes3 r.exit ++ bytes1 r.next)))

abbrev pub row_in : List ℕ → ℕ → Row
row_in s at = row (byte_at s at) (num3 s (at + 1)) (num3 s (at + 4)) (num3 s (at + 7)) (byte_at s (at + 10))

-- "place(1) entry(3) ticket(3)"
abbrev pub key_in : List ℕ → ℕ → Key
key_in s at = record { place = byte_at s at; entry = num3 s (at + 1); ticket = num3 s (at + 4) }

abbrev pub rows_bytes : List Row → List ℕ
rows_bytes [] = []
rows_bytes (r ∷ rows) = row_bytes r ++ rows_bytes rows

abbrev pub rows_from : List ℕ → ℕ → ℕ → List Row
rows_from s at zero = []
rows_from s at (suc n) = row_in s at ∷ rows_from s (at + row_size) n

-- ---- lists of row records

-- "a list of as many records as fit it whole"
abbrev pub records : List ℕ → ℕ
records list = length list / row_size

-- "Page and plan rows are written to the caller's own list of row records; records past the count keep their values."
abbrev pub written : List Row → List ℕ → List ℕ
written rows was = rows_bytes rows ++ drop (row_size * length rows) was

-- the bytes of a list that holds every plan, "1,280 records"
abbrev pub list_size : ℕ
list_size = row_size * plan_limit

-- a row's line has two digits a byte and a line feed
abbrev pub row_line_size : ℕ
row_line_size = 2 * row_size + 1

-- a list with room for every answer of the program: the lines of a whole plan's rows, and 560 bytes where the longest line before them has 19
abbrev pub answer_room : ℕ
answer_room = row_line_size * plan_limit + 560
