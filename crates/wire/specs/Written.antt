-- Rows written as records of bytes, one behind the other. A row put over record j, where the j records before it hold the rows so far,
-- makes one more row written: its bytes come behind theirs, and what lies after the record is as it was.
use Rattle.std.specs.Prelude.{ℕ, ◌+◌, ◌-◌, ◌*◌, ◌≤◌, ◌≡◌, refl, List, [], ◌∷◌, ◌++◌, length, take, drop}
use Rattle.std.proofs.Common.{sym, ap, ◌∙◌, append_assoc, append-nil, arith, length-append, length-drop, take_at, drop_at, take_all, drop-drop}
use Rattle.std.proofs.Math.Seq.{drop-length}
use borrow.Rule.Slice.PartMut.{put_mid}
use Rattle.laws.specs.Lists.{at, tabulate, length_tabulate}
use Rattle.rules.specs.declared.Row.{Row}
use Rattle.rules.specs.Bytes.{row_size, row_bytes, rows_bytes, written}
use Rattle.rules.specs.ByteLaws.{bytes_long}
use Rattle.flat.specs.Flat.{row_of}
use Rattle.wire.specs.Tables.{tabulate_snoc, rows_for}

pub bytes_append : (a b : List Row) → rows_bytes (a ++ b) ≡ rows_bytes a ++ rows_bytes b
bytes_append [] b = refl
bytes_append (r ∷ a) b = ap (λ (t : List ℕ). row_bytes r ++ t) (bytes_append a b) ∙ sym (append_assoc (row_bytes r) (rows_bytes a) (rows_bytes b))

-- the row is over record j of the bytes, and the rest is as it was
pub record PutAt (r : Row) (j : ℕ) (was out : List ℕ) : Type 0 where
  pub over : out ≡ take (row_size * j) was ++ (row_bytes r ++ drop (row_size * (j + 1)) was)
  pub long : length out ≡ length was

-- ---- rows written one after the other: none, and one more

pub written_start : (was : List ℕ) → was ≡ written [] was
written_start was = refl

pub written_next : (l : List Row) (first : List ℕ) {r : Row} {j : ℕ} {was out : List ℕ} → PutAt r j was out → length l ≡ j → was ≡ written l first
    → out ≡ written (l ++ (r ∷ [])) first
written_next l first {r} {j} {was} {out} P n e =
    let f : List ℕ = rows_bytes l in
    let w : List ℕ = drop (row_size * length l) first in
    let a : length f ≡ row_size * j = bytes_long l ∙ ap (λ (k : ℕ). row_size * k) n in
    let front : take (row_size * j) was ≡ f = rw e (take_at f w (row_size * j) a) in
    let rest : drop (row_size * j) was ≡ w = rw e (drop_at f w (row_size * j) a) in
    let two : row_size * j + row_size ≡ row_size * (j + 1) = omega arith in
    let more : row_size * length l + row_size ≡ row_size * length (l ++ (r ∷ [])) = omega (arith, length-append l (r ∷ [])) in
    let end : drop (row_size * (j + 1)) was ≡ drop (row_size * length (l ++ (r ∷ []))) first =
    ap (λ (k : ℕ). drop k was) (sym two) ∙ sym (drop-drop row_size (row_size * j) was) ∙ ap (drop row_size) rest ∙ drop-drop row_size (row_size * length l) first
    ∙ ap (λ (k : ℕ). drop k first) more in
    P.over
    ∙ rw (front, end) (sym (append_assoc f (row_bytes r) (drop (row_size * length (l ++ (r ∷ []))) first)))
    ∙ ap (λ (t : List ℕ). t ++ drop (row_size * length (l ++ (r ∷ []))) first) (sym (bytes_append l (r ∷ [])))

-- ---- one row

-- a row put over the front of the part that begins with record j
pub put_at_is : (r : Row) (j : ℕ) (was p : List ℕ) → row_size * (j + 1) ≤ length was
    → p ≡ row_bytes r ++ drop row_size (take (length was - row_size * j) (drop (row_size * j) was))
    → length (put_mid (row_size * j) (length was - row_size * j) was p) ≡ length was
    → PutAt r j was (put_mid (row_size * j) (length was - row_size * j) was p)
put_at_is r j was p h e n =
    let w : List ℕ = drop (row_size * j) was in
    let long : length was - row_size * j ≡ length w = sym (length-drop (row_size * j) was) in
    let whole : take (length was - row_size * j) w ≡ w = take_all (length was - row_size * j) w (omega arith) in
    let gone : drop (length was - row_size * j) w ≡ [] = ap (λ (k : ℕ). drop k w) long ∙ drop-length w in
    let two : row_size * j + row_size ≡ row_size * (j + 1) = omega arith in
    let end : drop row_size w ≡ drop (row_size * (j + 1)) was = drop-drop row_size (row_size * j) was ∙ ap (λ (k : ℕ). drop k was) two in
    record {
      over = rw (gone, e, whole, end) (ap (λ (t : List ℕ). take (row_size * j) was ++ t) (append-nil (row_bytes r ++ drop (row_size * (j + 1)) was)));
      long = n;
    }

-- ---- a run of rows copied from the arrays: the first j of it are written

pub record Copied (K X : List ℕ) (from j : ℕ) (was out : List ℕ) : Type 0 where
  pub rows : out ≡ written (rows_for K X from j) was
  pub long : length out ≡ length was

pub copied_start : (K X : List ℕ) (from : ℕ) (was : List ℕ) → Copied K X from 0 was was
unfolding tabulate
copied_start K X from was = record { rows = written_start was; long = refl }

pub copied_next : {K X : List ℕ} {from j : ℕ} {was out out' : List ℕ} {r : Row} → Copied K X from j was out
    → r ≡ row_of (at K (from + j)) (at X (from + j)) → PutAt r j out out' → Copied K X from (j + 1) was out'
copied_next {K} {X} {from} {j} {was} {out} {out'} {r} C e P =
    let f : ℕ → Row = λ i. row_of (at K (from + i)) (at X (from + i)) in
    record {
      rows = written_next (tabulate j f) was P (length_tabulate j f) C.rows
          ∙ ap (λ (l : List Row). written l was) (ap (λ (x : Row). tabulate j f ++ (x ∷ [])) e ∙ sym (tabulate_snoc j f));
      long = P.long ∙ C.long;
    }
