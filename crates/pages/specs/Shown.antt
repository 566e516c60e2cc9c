-- What a page shows, from the index of the first row above the cursor: the rows from it on are all the rows above the cursor, so their
-- number is known, and the page is a run of the arrays' rows whose last row's key is the next cursor.
use Rattle.std.specs.Prelude.{ℕ, zero, suc, ◌+◌, ◌-◌, ◌≤◌, ◌≡◌, refl, List, [], ◌∷◌, length, take, drop, min, ltb, Ok}
use Rattle.std.proofs.Common.{zero-le, sym, ap, ◌∙◌, arith, length-drop}
use Rattle.std.proofs.lemmas.List.{take_min}
use Rattle.std.proofs.Math.Seq.{drop-nil}
use Rattle.laws.specs.Lists.{at, tabulate, length_tabulate}
use Rattle.rules.specs.declared.Row.{Row}
use Rattle.rules.specs.declared.Shown.{Shown}
use Rattle.rules.specs.Rows.{Key, row_key, cursor_key}
use Rattle.rules.specs.Page.{after, page_rows, last_key}
use Rattle.rules.specs.Bytes.{written}
use Rattle.rules.specs.Answer.{PageDone}
use Rattle.flat.specs.Flat.{row_of, rows_in}
use Rattle.flat.specs.Laws.{rows_long}
use Rattle.wire.specs.Tables.{rows_for, rows_for_lem}
use Rattle.pages.specs.Search.{FirstAfter}

-- the rows from the first above a key on are the rows above it
pub drop_first : (rows : List Row) (k : Key) (r : ℕ) → FirstAfter rows k r → drop r rows ≡ after k rows
drop_first [] k r F = drop-nil r
drop_first (a ∷ rows) k zero F =
    rw (F.from 0 zero-le (omega arith))
    (ap (λ (t : List Row). a ∷ t) (drop_first rows k zero (record {
      within = zero-le;
      before = λ i l. absurd (omega arith);
      from = λ i l m. F.from (suc i) zero-le (omega arith);
    })))
drop_first (a ∷ rows) k (suc r) F =
    rw (F.before 0 (omega arith))
    (drop_first rows k r (record {
      within = omega (arith, F.within);
      before = λ i l. F.before (suc i) (omega arith);
      from = λ i l m. F.from (suc i) (omega arith) (omega arith);
    }))

-- the last of one or more rows made of a function
pub last_tabulate : (k : Key) (m : ℕ) (f : ℕ → Row) → last_key k (tabulate (suc m) f) ≡ row_key (f m)
unfolding tabulate
last_tabulate k zero f = refl
last_tabulate k (suc m) f = last_tabulate (row_key (f 0)) m (λ i. f (suc i))

-- the last of n rows of the arrays from an index on
module _ (K X : List ℕ) (from n : ℕ) (k : Key) where
  pub last_none : n ≡ 0 → k ≡ last_key k (rows_for K X from n)
  unfolding tabulate
  last_none e = rw e

  pub last_some : {r : Row} → (n ≡ 0 → ⊥) → r ≡ row_of (at K (from + (n - 1))) (at X (from + (n - 1))) → row_key r ≡ last_key k (rows_for K X from n)
  last_some some e = ap row_key e ∙ sym (by n some)
    where
      by : (n : ℕ) → (n ≡ 0 → ⊥) → last_key k (rows_for K X from n) ≡ row_key (row_of (at K (from + (n - 1))) (at X (from + (n - 1))))
      by zero h = absurd (h refl)
      by (suc m) h = let o : suc m - 1 ≡ m = omega arith in rw o (last_tabulate k m (λ i. row_of (at K (from + i)) (at X (from + i))))

-- the rows of the arrays above a key, from the index of the first of them on
module _ (K X : List ℕ) (count : ℕ) (k : Key) {first : ℕ} (F : FirstAfter (rows_in K X count) k first) where
  pub first_within : first ≤ count
  first_within = omega (arith, F.within, rows_long K X count)

  pub after_long : length (after k (rows_in K X count)) ≡ count - first
  after_long =
      ap length (sym (drop_first (rows_in K X count) k first F))
      ∙ length-drop first (rows_in K X count)
      ∙ ap (λ (n : ℕ). n - first) (rows_long K X count)

  -- a page is a run of the arrays' rows
  pub page_run : (size : ℕ) → page_rows size k (rows_in K X count) ≡ rows_for K X first (min size (count - first))
  page_run size =
      let n = min size (count - first) in
      sym (take_min size (after k (rows_in K X count)))
      ∙ ap (λ (m : ℕ). take (min size m) (after k (rows_in K X count))) after_long
      ∙ ap (take n) (sym (drop_first (rows_in K X count) k first F))
      ∙ sym (rows_for_lem K X first n count (omega (arith, first_within)))

  -- the answer of a page, of its parts
  pub page_done : (size : ℕ) (was out : List ℕ) (s : Shown) → s.count ≡ min size (count - first) → s.more ≡ ltb size (count - first)
      → cursor_key s.cursor ≡ last_key k (rows_for K X first s.count)
      → out ≡ written (rows_for K X first s.count) was
      → PageDone (rows_in K X count) size k was out (Ok s)
  page_done size was out s f m c o =
      let e : page_rows size k (rows_in K X count) ≡ rows_for K X first s.count = page_run size ∙ ap (rows_for K X first) (sym f) in
      record {
        code = refl;
        counts = rw e (sym (length_tabulate s.count (λ i. row_of (at K (first + i)) (at X (first + i)))));
        says = rw after_long m;
        hands = rw e c;
        holds = rw e o;
      }
