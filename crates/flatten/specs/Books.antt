-- A book's rows as arrays of numbers. A row in range is told by its key and its tail, so that the list which the arrays stand for is the book's; a row
-- out of range or a used slot past the count is none of a well-formed book.
use Rattle.std.specs.Prelude.{ℕ, ◌+◌, ◌-◌, ◌≤◌, ◌<◌, ◌≡◌, refl, Bool, true, List, length, drop, slice_range}
use Rattle.std.proofs.Common.{subst, arith, get_or-take, length-take-le, length-drop, take_all}
use Rattle.std.proofs.lemmas.List.{get_or-drop}
use Rattle.laws.specs.Lists.{at}
use Rattle.rules.specs.declared.Row.{Row}
use Rattle.rules.specs.declared.Book.{Book}
use Rattle.rules.specs.Limits.{day, row_limit, ticket_limit}
use Rattle.rules.specs.Map.{Yard}
use Rattle.rules.specs.Rows.{no_row, row_at}
use Rattle.rules.specs.RowLaws.{row_eq}
use Rattle.rules.specs.Book.{rows_of, Ranges, CountedBook}
use Rattle.rules.specs.Bytes.{field_limit}
use Rattle.flat.specs.Flat.{row_of, rows_in, key_of, tail_value, Packed}
use Rattle.flat.specs.Laws.{place_of_key, entry_of_key, ticket_of_key, exit_of_tail, next_of_tail}
use Rattle.flatten.specs.Lists.{table_take}

-- what every row of a well-formed book is within, whatever the map
pub record InRange (r : Row) : Type 0 where
  pub entry : r.entry ≤ day
  pub exit : r.exit ≤ day
  pub ticket : r.ticket < ticket_limit

-- slots that hold no row
abbrev pub Unused : List Row → Type 0
Unused rows = (i : ℕ) → i < length rows → row_at rows i ≡ no_row

-- the whole book, and what the answer r tells: with the answer true the arrays hold all of it, and for a book whose counts and numbers are good it is true
pub record BookFlat (b : Book) (K X : List ℕ) (r : Bool) : Type 0 where
  pub packed : Packed K
  pub fits : r ≡ true → b.count ≤ row_limit
  pub rows : r ≡ true → rows_in K X b.count ≡ rows_of b
  pub spare : r ≡ true → (i : ℕ) → b.count ≤ i → i < row_limit → row_at b.rows i ≡ no_row
  pub told : (Y : Yard) → CountedBook Y b → r ≡ true
  pub len_key : length K ≡ 1024
  pub len_tail : length X ≡ 1024

-- a row's key and tail tell the row
pub row_told : (r : Row) → InRange r → r.next < 256 → row_of (key_of r.place r.entry r.ticket) (tail_value r.exit r.next) ≡ r
row_told r R hn =
    let he : r.entry < field_limit = omega (arith, R.entry) in
    let ht : r.ticket < field_limit = omega (arith, R.ticket) in
    row_eq (place_of_key r.place r.entry r.ticket he ht) (entry_of_key r.place r.entry r.ticket he ht) (ticket_of_key r.place r.entry r.ticket he ht)
    (exit_of_tail r.exit r.next hn) (next_of_tail r.exit r.next hn)

-- a row of a well-formed book is in range
pub counted_range : {Y : Yard} (b : Book) → length b.rows ≡ 1024 → CountedBook Y b → (i : ℕ) → i < b.count → InRange (row_at b.rows i)
counted_range {Y} b l G i h =
    let long : length (rows_of b) ≡ b.count = length-take-le b.count b.rows (omega (arith, G.fits)) in
    let R : Ranges Y b.next_ticket (row_at b.rows i) = subst (Ranges Y b.next_ticket) (get_or-take b.count b.rows i no_row h) (G.counts.ranges i (omega arith)) in
    record { entry = R.entry; exit = R.exit; ticket = omega (arith, R.ticket_to, G.counts.ticket_to) }

-- the first n rows of the book stand in the arrays
pub record RowsTo (b : Book) (K X : List ℕ) (n : ℕ) : Type 0 where
  pub rows : (i : ℕ) → i < n → row_of (at K i) (at X i) ≡ row_at b.rows i
  pub packed : Packed K
  pub len_key : length K ≡ 1024
  pub len_tail : length X ≡ 1024

-- all rows are written, and no slot past them is used
pub book_flat : (b : Book) {K X : List ℕ} → length b.rows ≡ 1024 → b.count ≤ row_limit → RowsTo b K X b.count → Unused (slice_range b.rows b.count (length b.rows))
    → BookFlat b K X true
book_flat b {K} {X} l h P u = record {
  packed = P.packed;
  fits = λ _. h;
  rows = λ _. table_take b.count (λ i. row_of (at K i) (at X i)) b.rows no_row (omega arith) P.rows;
  spare = λ _ i a g.
      let past = length-drop b.count b.rows in
      let whole = take_all (length b.rows - b.count) (drop b.count b.rows) (omega arith) in
      let e : b.count + (i - b.count) ≡ i = omega arith in
      rw (get_or-drop b.count b.rows (i - b.count) no_row, e) at (rw whole at u (i - b.count) (omega arith));
  told = λ _ _. refl;
  len_key = P.len_key;
  len_tail = P.len_tail;
}
