-- Rows: keys and their order, the load of a place, crossings and what bars them.
use Rattle.std.specs.Prelude.{ℕ, suc, ◌+◌, ◌-◌, ◌<◌, ◌≡◌, Bool, true, false, ◌&&◌, length, get_or, eqb, leb, ltb}
use mathlib.Core.List.{List, [], ◌∷◌, Memᴰ}
use Rattle.rules.specs.declared.Row.{Row}
use Rattle.rules.specs.declared.Cursor.{Cursor}

abbrev pub row : (place entry ticket exit next : ℕ) → Row
row place entry ticket exit next = record { place = place; entry = entry; ticket = ticket; exit = exit; next = next }

abbrev pub no_row : Row
no_row = row 0 0 0 0 0

abbrev pub row_at : List Row → ℕ → Row
row_at rows i = get_or rows i no_row

-- "A row's key is (place, entry, ticket), compared in that order."
pub record Key : Type 0 where
  pub place : ℕ
  pub entry : ℕ
  pub ticket : ℕ

abbrev pub row_key : Row → Key
row_key r = record { place = r.place; entry = r.entry; ticket = r.ticket }

abbrev pub cursor_key : Cursor → Key
cursor_key c = record { place = c.place; entry = c.entry; ticket = c.ticket }

-- "The first cursor is place 0, entry 0, ticket 0."
abbrev pub first_key : Key
first_key = record { place = 0; entry = 0; ticket = 0 }

pub data Less (a b : Key) : Type 0 where
  by_place : a.place < b.place → Less a b
  by_entry : a.place ≡ b.place → a.entry < b.entry → Less a b
  by_ticket : a.place ≡ b.place → a.entry ≡ b.entry → a.ticket < b.ticket → Less a b

-- the same as a test
abbrev pub lex : Bool → Bool → Bool → Bool
lex true up rest = true
lex false true rest = false
lex false false rest = rest

unfoldable pub lessb : Key → Key → Bool
lessb a b =
    lex (ltb a.place b.place) (ltb b.place a.place)
    (lex (ltb a.entry b.entry) (ltb b.entry a.entry) (ltb a.ticket b.ticket))

-- "in strictly rising key order"
pub record Rising (rows : List Row) : Type 0 where
  pub rise : (i j : ℕ) → i < j → j < length rows → Less (row_key (row_at rows i)) (row_key (row_at rows j))

-- "A stay from a to b covers the seconds a to b-1, so another may enter at b."
unfoldable pub covers : ℕ → ℕ → ℕ → ℕ → ℕ → Bool
covers place entry exit p t = eqb place p && (leb entry t && ltb t exit)

abbrev pub bit : Bool → ℕ
bit true = 1
bit false = 0

-- how many booked rows hold place p at second t: the load of a place
unfoldable pub load : List Row → ℕ → ℕ → ℕ
load [] p t = 0
load (r ∷ rows) p t = bit (covers r.place r.entry r.exit p t) + load rows p t

-- a booked crossing from p to q at second t: a row whose next is not its own place, at its exit
pub record Crossing (rows : List Row) (p q t : ℕ) : Type 0 where
  pub row : Row
  pub booked : Memᴰ row rows
  pub onward : row.next ≡ row.place → ⊥
  pub from : row.place ≡ p
  pub to : row.next ≡ q
  pub at : row.exit ≡ t

-- booked crossings at t lead from p to q in one or more steps
pub data Leads (rows : List Row) (t : ℕ) : ℕ → ℕ → Type 0 where
  one : {p q : ℕ} → Crossing rows p q t → Leads rows t p q
  via : {p x q : ℕ} → Crossing rows p x t → Leads rows t x q → Leads rows t p q

-- "a crossing at second t is barred if, together with booked crossings at t, it closes a ring of two or more places":
-- the crossing from p to q, where booked ones lead from q to p
abbrev pub Barred : List Row → ℕ → ℕ → ℕ → Type 0
Barred rows p q t = Leads rows t q p

-- a ring among the rows: a closed walk over places, of any length, each left for the next by a booked crossing at t
pub record Ring (rows : List Row) (t : ℕ) (walk : List ℕ) : Type 0 where
  pub some : 1 < length walk
  pub steps : (i : ℕ) → suc i < length walk → Crossing rows (get_or walk i 0) (get_or walk (suc i) 0) t
  pub closed : get_or walk (length walk - 1) 0 ≡ get_or walk 0 0

-- the rows that a test keeps, in their order
abbrev pub choose : Bool → Row → List Row → List Row
choose true r rows = r ∷ rows
choose false r rows = rows

abbrev pub keep : (Row → Bool) → List Row → List Row
keep f [] = []
keep f (r ∷ rows) = choose (f r) r (keep f rows)

-- a row put before the first whose key is above its own
abbrev pub put_before : Bool → Row → Row → List Row → List Row → List Row
put_before true r x rows more = r ∷ (x ∷ rows)
put_before false r x rows more = x ∷ more

abbrev pub insert_row : Row → List Row → List Row
insert_row r [] = r ∷ []
insert_row r (x ∷ rows) = put_before (lessb (row_key r) (row_key x)) r x rows (insert_row r rows)

-- "rows put in order": several rows, one after the other
abbrev pub insert_all : List Row → List Row → List Row
insert_all [] rows = rows
insert_all (r ∷ new) rows = insert_all new (insert_row r rows)
