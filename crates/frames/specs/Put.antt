-- Bytes put over a list from an index on: what stands before and behind them is as it was. Runs put one behind the other are one run, so the
-- digits of bytes make a line and lines make an answer.
use Rattle.std.specs.Prelude.{ℕ, zero, suc, ◌+◌, ◌*◌, ◌/◌, ◌%◌, ◌≤◌, ◌<◌, ◌≡◌, refl, List, [], ◌∷◌, ◌++◌, length, get_or, take, drop, set}
use Rattle.std.proofs.Common.{sym, ap, ◌∙◌, append_assoc, append-nil, arith, add-one, length-append, length-drop, take-append-drop, take-suc, get_or-drop, take_at, drop_at, drop-drop, length-take-le}
use Rattle.std.proofs.lemmas.List.Edits.{sets-eq, sets}
use Rattle.std.proofs.Math.Seq.{length-sets}
use Rattle.rules.specs.Bytes.{row_size, row_line_size}
use Rattle.rules.specs.Frames.{digit, hex_of, line_of, row_lines}
use Rattle.unique.specs.Hex.{hex_length, hex_append}

pub record Put (bytes : List ℕ) (at : ℕ) (was out : List ℕ) : Type 0 where
  pub over : out ≡ take at was ++ (bytes ++ drop (at + length bytes) was)
  pub long : length out ≡ length was

-- what straight-line stores leave
pub put_sets : (bytes was : List ℕ) (at : ℕ) → at + length bytes ≤ length was → Put bytes at was (sets was at bytes)
put_sets bytes was at h = record {
  over = sets-eq bytes was at h ∙ append_assoc (take at was) bytes (drop (at + length bytes) was);
  long = length-sets was at bytes;
}

pub put_none : (was : List ℕ) (at : ℕ) → Put [] at was was
put_none was at = record { over = let e : at + 0 ≡ at = omega arith in rw e (sym (take-append-drop at was)); long = refl }

-- one run behind another
pub put_more : {a b was mid out : List ℕ} {at : ℕ} → at + length a ≤ length was → Put a at was mid → Put b (at + length a) mid out → Put (a ++ b) at was out
put_more {a} {b} {was} {mid} {out} {at} h P Q =
    let front : List ℕ = take at was ++ a in
    let rest : List ℕ = drop (at + length a) was in
    let n : length front ≡ at + length a = length-append (take at was) a ∙ ap (λ (k : ℕ). k + length a) (length-take-le at was (omega arith)) in
    let e : mid ≡ front ++ rest = P.over ∙ sym (append_assoc (take at was) a rest) in
    let t : take (at + length a) mid ≡ front = rw e (take_at front rest (at + length a) n) in
    let d : drop (at + length a) mid ≡ rest = rw e (drop_at front rest (at + length a) n) in
    let k : (at + length a) + length b ≡ at + length (a ++ b) = omega (arith, length-append a b) in
    let z : drop ((at + length a) + length b) mid ≡ drop (at + length (a ++ b)) was =
    sym (drop-drop (length b) (at + length a) mid) ∙ ap (drop (length b)) d ∙ drop-drop (length b) (at + length a) was ∙ ap (λ (m : ℕ). drop m was) k in
    let u = Q.over in
    record {
      over = (rw (t, z) at u)
          ∙ append_assoc (take at was) a (b ++ drop (at + length (a ++ b)) was)
          ∙ ap (λ (l : List ℕ). take at was ++ l) (sym (append_assoc a b (drop (at + length (a ++ b)) was)));
      long = Q.long ∙ P.long;
    }

-- what an answer put at the front leaves
pub put_front : {a was out : List ℕ} → Put a 0 was out → take (length a) out ≡ a
put_front {a} {was} P = let e : 0 + length a ≡ length a = omega arith in rw (P.over, e) (take_at a (drop (length a) was) (length a) refl)

pub put_rest : {a was out : List ℕ} → Put a 0 was out → drop (length a) out ≡ drop (length a) was
put_rest {a} {was} P = let e : 0 + length a ≡ length a = omega arith in rw (P.over, e) (drop_at a (drop (length a) was) (length a) refl)

-- ---- one byte, two digits

pub put_byte : (x : ℕ) (was : List ℕ) (at : ℕ) → at + 2 ≤ length was → Put (hex_of (x ∷ [])) at was (set (set was at (digit (x / 16))) (at + 1) (digit (x % 16)))
unfolding hex_of
put_byte x was at h = rw add-one (put_sets (digit (x / 16) ∷ (digit (x % 16) ∷ [])) was at h)

-- ---- the digits of a run of bytes: the first i of them

pub record Digits (list : List ℕ) (from i at : ℕ) (was out : List ℕ) : Type 0 where
  pub put : Put (hex_of (take i (drop from list))) at was out

pub digits_start : (list : List ℕ) (from at : ℕ) (was : List ℕ) → Digits list from 0 at was was
unfolding hex_of
digits_start list from at was = record { put = put_none was at }

digits_long : (list : List ℕ) (from i : ℕ) → from + i ≤ length list → length (hex_of (take i (drop from list))) ≡ 2 * i
digits_long list from i h = hex_length (take i (drop from list)) ∙ ap (λ (k : ℕ). 2 * k) (length-take-le i (drop from list) (omega (arith, length-drop from list)))

pub digits_next : {list : List ℕ} {from i at : ℕ} {was mid out : List ℕ} → from + i < length list → at + 2 * i ≤ length was → Digits list from i at was mid
    → Put (hex_of (get_or list (from + i) 0 ∷ [])) (at + 2 * i) mid out → Digits list from (i + 1) at was out
digits_next {list} {from} {i} {at} {was} {mid} {out} h g D P =
    let l : List ℕ = drop from list in
    let e : length (hex_of (take i l)) ≡ 2 * i = digits_long list from i (omega arith) in
    let x : get_or l i 0 ≡ get_or list (from + i) 0 = get_or-drop from list i 0 in
    let s : take (i + 1) l ≡ take i l ++ (get_or list (from + i) 0 ∷ []) = rw (add-one, ← x) (take-suc l i 0 (omega (arith, length-drop from list))) in
    let b : hex_of (take (i + 1) l) ≡ hex_of (take i l) ++ hex_of (get_or list (from + i) 0 ∷ []) = ap hex_of s ∙ hex_append (take i l) (get_or list (from + i) 0 ∷ []) in
    record { put = rw b (put_more (omega arith) D.put (rw e P)) }

-- ---- a line

pub line_long : (list : List ℕ) (from n : ℕ) → from + n ≤ length list → length (line_of (take n (drop from list))) ≡ 2 * n + 1
line_long list from n h = length-append (hex_of (take n (drop from list))) (10 ∷ []) ∙ ap (λ (k : ℕ). k + 1) (digits_long list from n h)

pub put_line_lem : {list : List ℕ} {from n at : ℕ} {was mid : List ℕ} → from + n ≤ length list → at + 2 * n < length was → Digits list from n at was mid
    → Put (line_of (take n (drop from list))) at was (set mid (at + 2 * n) 10)
put_line_lem {list} {from} {n} {at} {was} {mid} h g D =
    let e : length (hex_of (take n (drop from list))) ≡ 2 * n = digits_long list from n h in
    put_more (omega arith) D.put (rw e (put_sets (10 ∷ []) mid (at + 2 * n) (omega (arith, D.put.long))))

-- ---- row lines: the first j of them

pub rows_long : (n : ℕ) (list : List ℕ) → row_size * n ≤ length list → length (row_lines n list) ≡ row_line_size * n
rows_long zero list h = refl
rows_long (suc n) list h =
    let a = line_long list 0 row_size (omega arith) in
    let b = rows_long n (drop row_size list) (omega (arith, length-drop row_size list)) in
    length-append (line_of (take row_size list)) (row_lines n (drop row_size list)) ∙ omega arith

rows_snoc : (n : ℕ) (list : List ℕ) → row_lines (suc n) list ≡ row_lines n list ++ line_of (take row_size (drop (row_size * n) list))
rows_snoc zero list = append-nil (line_of (take row_size list))
rows_snoc (suc n) list =
    let e : row_size + row_size * n ≡ row_size * suc n = omega arith in
    let d : drop (row_size * n) (drop row_size list) ≡ drop (row_size * suc n) list = drop-drop (row_size * n) row_size list ∙ ap (λ (k : ℕ). drop k list) e in
    ap (λ (l : List ℕ). line_of (take row_size list) ++ l) (rows_snoc n (drop row_size list) ∙ ap (λ (l : List ℕ). row_lines n (drop row_size list) ++ line_of (take row_size l)) d)
    ∙ sym (append_assoc (line_of (take row_size list)) (row_lines n (drop row_size list)) (line_of (take row_size (drop (row_size * suc n) list))))

pub record RowsPut (list : List ℕ) (j at : ℕ) (was out : List ℕ) : Type 0 where
  pub put : Put (row_lines j list) at was out

pub rows_next : {list : List ℕ} {j at : ℕ} {was mid out : List ℕ} → row_size * (j + 1) ≤ length list → at + row_line_size * j ≤ length was → RowsPut list j at was mid
    → Put (line_of (take row_size (drop (row_size * j) list))) (at + row_line_size * j) mid out → RowsPut list (j + 1) at was out
rows_next {list} {j} {at} {was} {mid} {out} h g R P =
    let e : length (row_lines j list) ≡ row_line_size * j = rows_long j list (omega arith) in
    record { put = rw (add-one, rows_snoc) (put_more (omega arith) R.put (rw e P)) }
