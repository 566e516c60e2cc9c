-- Rows read back from the bytes they were written to, one a turn: what the array holds after j turns. The fields of a plan's rows fit their bytes, where
-- it is a plan of the day.
use Rattle.std.specs.Prelude.{ℕ, zero, suc, ◌+◌, ◌*◌, ◌≤◌, ◌<◌, ◌≡◌, List, [], ◌∷◌, ◌++◌, length, set, take, drop}
use Rattle.std.proofs.Common.{sym, ap, ◌∙◌, ⊎_elim, append_assoc, arith, length-set, get_or-set_same, get_or-set_other, get_or-take, length-take-le, ext_get_or}
use Rattle.laws.specs.Order.{eq_or_ne}
use Rattle.rules.specs.declared.Row.{Row}
use Rattle.rules.specs.Limits.{plan_limit}
use Rattle.rules.specs.Rows.{no_row, row_at}
use Rattle.rules.specs.Plan.{Stay, stay_at, run_rows}
use Rattle.rules.specs.Bytes.{field_limit, row_size, row_in, rows_bytes, written}
use Rattle.rules.specs.ByteLaws.{RowFits, read_at}

-- ---- the loop

-- the first j rows are read from the bytes
pub record RowsRead (s : List ℕ) (j : ℕ) (rows : List Row) : Type 0 where
  pub each : (i : ℕ) → i < j → row_at rows i ≡ row_in s (row_size * i)
  pub long : length rows ≡ plan_limit

pub none_read : (s : List ℕ) (rows : List Row) → length rows ≡ plan_limit → RowsRead s 0 rows
none_read s rows l = record { each = λ i h. absurd (omega arith); long = l }

pub row_read : {s : List ℕ} {j : ℕ} {rows : List Row} (r : Row) → RowsRead s j rows → j < plan_limit → r ≡ row_in s (row_size * j) → RowsRead s (j + 1) (set rows j r)
row_read {s} {j} {rows} r R h e = record {
  each = λ i k.
      ⊎_elim (λ (q : i ≡ j). ap (row_at (set rows j r)) q ∙ get_or-set_same rows j r no_row (omega (arith, R.long)) ∙ e ∙ ap (λ n. row_in s (row_size * n)) (sym q))
      (λ (q : i ≡ j → ⊥). get_or-set_other rows j i r no_row q ∙ R.each i (omega arith))
      (eq_or_ne i j);
  long = length-set rows j r ∙ R.long;
}

-- ---- what was written is read

-- the rows that were written to the front of the bytes
pub read_all : (rows : List Row) (was rest : List ℕ) {n : ℕ} {got : List Row} → ((j : ℕ) → j < length rows → RowFits (row_at rows j)) → n ≡ length rows → n ≤ plan_limit
    → RowsRead (written rows was ++ rest) n got → take n got ≡ rows
read_all rows was rest {n} {got} F e h R =
    let l : length (take n got) ≡ n = length-take-le n got (omega (arith, R.long)) in
    ext_get_or no_row (take n got) rows (l ∙ e) (λ i k.
    get_or-take n got i no_row (omega arith) ∙ R.each i (omega arith)
    ∙ ap (λ (s : List ℕ). row_in s (row_size * i)) (append_assoc (rows_bytes rows) (drop (row_size * length rows) was) rest)
    ∙ read_at rows (drop (row_size * length rows) was ++ rest) i (omega arith) F)

-- ---- a plan's rows fit

pub record StayFits (x : Stay) : Type 0 where
  pub place : x.place < 256
  pub entry : x.entry < field_limit
  pub exit : x.exit < field_limit

pub run_fits : (t : ℕ) → t < field_limit → (plan : List Stay) → ((i : ℕ) → i < length plan → StayFits (stay_at plan i))
    → (j : ℕ) → j < length (run_rows t plan) → RowFits (row_at (run_rows t plan) j)
run_fits t h [] F j k = absurd (omega arith)
run_fits t h (x ∷ []) F zero k =
    let a = F 0 (omega arith) in
    record { place = a.place; entry = a.entry; ticket = h; exit = a.exit; next = a.place }
run_fits t h (x ∷ []) F (suc j) k = absurd (omega arith)
run_fits t h (x ∷ (y ∷ ys)) F zero k =
    let a = F 0 (omega arith) in
    record { place = a.place; entry = a.entry; ticket = h; exit = a.exit; next = (F 1 (omega arith)).place }
run_fits t h (x ∷ (y ∷ ys)) F (suc j) k = run_fits t h (y ∷ ys) (λ i l. F (suc i) (omega arith)) j (omega arith)
