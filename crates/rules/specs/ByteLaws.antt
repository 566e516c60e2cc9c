-- What was written as bytes is read back as it was, where each field fits its bytes.
use Rattle.std.specs.Prelude.{ℕ, zero, suc, ◌+◌, ◌*◌, ◌/◌, ◌%◌, ◌<◌, ◌≡◌, refl, List, [], ◌∷◌, ◌++◌, length, drop}
use Rattle.std.proofs.Common.{sym, ap, ◌∙◌, arith, length-append, get_or-drop}
use Rattle.rules.specs.declared.Row.{Row}
use Rattle.rules.specs.Rows.{row_at}
use Rattle.rules.specs.RowLaws.{row_eq}
use Rattle.rules.specs.Bytes.{field_limit, byte_at, num3, row_size, row_bytes, row_in, rows_bytes, rows_from}

pub record RowFits (r : Row) : Type 0 where
  pub place : r.place < 256
  pub entry : r.entry < field_limit
  pub ticket : r.ticket < field_limit
  pub exit : r.exit < field_limit
  pub next : r.next < 256

one_byte : (x : ℕ) → x < 256 → x % 256 ≡ x
one_byte x h = omega arith

three_bytes : (x : ℕ) → x < field_limit → x / 65536 % 256 * 65536 + x / 256 % 256 * 256 + x % 256 ≡ x
three_bytes x h = omega arith

first_row : (r : Row) (rest : List ℕ) → RowFits r → row_in (row_bytes r ++ rest) 0 ≡ r
first_row r rest F =
    row_eq (one_byte r.place F.place) (three_bytes r.entry F.entry) (three_bytes r.ticket F.ticket) (three_bytes r.exit F.exit) (one_byte r.next F.next)

-- ---- a row past the first

byte_past : (s : List ℕ) (n k : ℕ) → k ≡ row_size + n → byte_at s k ≡ byte_at (drop row_size s) n
byte_past s n k e = ap (byte_at s) e ∙ sym (get_or-drop row_size s n 0)

num_past : (s : List ℕ) (n k : ℕ) → k ≡ row_size + n → num3 s k ≡ num3 (drop row_size s) n
num_past s n k e =
    let a = byte_past s n k e in
    let b = byte_past s (n + 1) (k + 1) (omega arith) in
    let c = byte_past s (n + 2) (k + 2) (omega arith) in
    λ i. a i * 65536 + b i * 256 + c i

row_past : (s : List ℕ) (n k : ℕ) → k ≡ row_size + n → row_in s k ≡ row_in (drop row_size s) n
row_past s n k e =
    row_eq (byte_past s n k e) (num_past s (n + 1) (k + 1) (omega arith)) (num_past s (n + 4) (k + 4) (omega arith)) (num_past s (n + 7) (k + 7) (omega arith))
    (byte_past s (n + 10) (k + 10) (omega arith))

rows_past : (s : List ℕ) (at k n : ℕ) → k ≡ row_size + at → rows_from s k n ≡ rows_from (drop row_size s) at n
rows_past s at k zero e = refl
rows_past s at k (suc n) e = λ i. row_past s at k e i ∷ rows_past s (at + row_size) (k + row_size) n (omega arith) i

-- ---- rows written one behind the other

pub bytes_long : (l : List Row) → length (rows_bytes l) ≡ row_size * length l
bytes_long [] = refl
bytes_long (r ∷ l) = let h = bytes_long l in length-append (row_bytes r) (rows_bytes l) ∙ omega arith

pub read_at : (rows : List Row) (rest : List ℕ) (i : ℕ) → i < length rows → ((j : ℕ) → j < length rows → RowFits (row_at rows j)) → row_in (rows_bytes rows ++ rest) (row_size * i) ≡ row_at rows i
read_at [] rest i h F = absurd (omega arith)
read_at (r ∷ rows) rest zero h F = first_row r (rows_bytes rows ++ rest) (F 0 (omega arith))
read_at (r ∷ rows) rest (suc i) h F =
    row_past (rows_bytes (r ∷ rows) ++ rest) (row_size * i) (row_size * suc i) (omega arith) ∙ read_at rows rest i (omega arith) (λ j k. F (suc j) (omega arith))

pub read_rows : (rows : List Row) (rest : List ℕ) → ((j : ℕ) → j < length rows → RowFits (row_at rows j)) → rows_from (rows_bytes rows ++ rest) 0 (length rows) ≡ rows
read_rows [] rest F = refl
read_rows (r ∷ rows) rest F =
    let past = rows_past (rows_bytes (r ∷ rows) ++ rest) 0 row_size (length rows) refl in
    let here = first_row r (rows_bytes rows ++ rest) (F 0 (omega arith)) in
    let rest-is = past ∙ read_rows rows rest (λ j k. F (suc j) (omega arith)) in
    λ i. here i ∷ rest-is i
