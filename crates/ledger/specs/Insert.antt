-- A row put into a book from its end: the rows whose keys are above its own move up by one, the last first, until one is not. In key order none
-- below that one is above the row either, so that it stands where `insert_row` puts it.
use Rattle.std.specs.Prelude.{◌≡◌, refl, true, false, List, [], ◌∷◌, ◌++◌, ℕ, zero, suc, ◌+◌, ◌-◌, ◌<◌, ◌≤◌, length, set, replicate}
use Rattle.std.proofs.Common.{sym, ap, ◌∙◌, ⊎_elim, arith, get_or-take}
use Rattle.laws.specs.Order.{lt_or_ge}
use Rattle.laws.specs.Tests.{true_or_false}
use Rattle.rules.specs.declared.Row.{Row}
use Rattle.rules.specs.declared.Book.{Book}
use Rattle.rules.specs.Limits.{row_limit}
use Rattle.rules.specs.Rows.{row_key, no_row, row_at, lessb, Rising, insert_row}
use Rattle.rules.specs.Book.{rows_of, book_of}
use Rattle.keeping.specs.OrderLaws.{less_trans, lessb_less, not_less}
use Rattle.keeping.specs.Changes.{insert_length}
use Rattle.keeping.specs.Books.{book_eq, count_rows}
use Rattle.ledger.specs.Lists.{put, Moved, moved_more, moved_put}

-- where a row goes: before the first whose key is above its own
insert_at : (r : Row) (l : List Row) (at : ℕ) → at ≤ length l
    → ((i : ℕ) → i < at → lessb (row_key r) (row_key (row_at l i)) ≡ false)
    → (at < length l → lessb (row_key r) (row_key (row_at l at)) ≡ true)
    → insert_row r l ≡ put no_row r l at
insert_at r [] zero h low up = refl
insert_at r [] (suc at) h low up = absurd (omega arith)
insert_at r (x ∷ l) zero h low up = rw (up (omega arith))
insert_at r (x ∷ l) (suc at) h low up =
    rw (low 0 (omega arith))
    (ap (λ (t : List Row). x ∷ t) (insert_at r l at (omega arith) (λ i k. low (suc i) (omega arith)) (λ k. up (omega arith))))

-- in key order, what lies below a row that is not above lies not above
not_above : (r : Row) (l : List Row) → Rising l → (i j : ℕ) → i < j → j < length l → lessb (row_key r) (row_key (row_at l j)) ≡ false
    → lessb (row_key r) (row_key (row_at l i)) ≡ false
not_above r l R i j h k e =
    ⊎_elim (λ (c : lessb (row_key r) (row_key (row_at l i)) ≡ true). absurd (not_less _ _ e (less_trans (lessb_less _ _ c) (R.rise i j h k))))
    (λ (c : lessb (row_key r) (row_key (row_at l i)) ≡ false). c)
    (true_or_false (lessb (row_key r) (row_key (row_at l i))))

below_stop : (r : Row) (l : List Row) → Rising l → (at : ℕ) → at ≤ length l
    → ((i : ℕ) → suc i ≡ at → lessb (row_key r) (row_key (row_at l i)) ≡ false)
    → (i : ℕ) → i < at → lessb (row_key r) (row_key (row_at l i)) ≡ false
below_stop r l R zero h stop i k = absurd (omega arith)
below_stop r l R (suc at) h stop i k =
    ⊎_elim (λ (c : i < at). not_above r l R i at c (omega arith) (stop at refl)) (λ (c : at ≤ i). stop i (omega arith)) (lt_or_ge i at)

-- out is the book b whose rows from j on are moved up by one; the row at j is above r
pub record Shifted (r : Row) (b out : Book) (j : ℕ) : Type 0 where
  pub within : j ≤ b.count
  pub moved : Moved no_row b.rows out.rows b.count j
  pub above : j < b.count → lessb (row_key r) (row_key (row_at b.rows j)) ≡ true
  pub ticket : out.next_ticket ≡ b.next_ticket

module _ (r : Row) (b : Book) where
  module _ (long : length b.rows ≡ row_limit) (fits : b.count < row_limit) {out : Book} {j : ℕ} (S : Shifted r b out j) where
    -- the row below is above r, and moves up
    pub shift_next : 0 < j → lessb (row_key r) (row_key (row_at out.rows (j - 1))) ≡ true
        → Shifted r b (record { rows = set out.rows j (row_at out.rows (j - 1)); count = out.count; next_ticket = out.next_ticket }) (j - 1)
    shift_next h e = record {
      within = omega (arith, S.within);
      moved = moved_more no_row b.rows out.rows b.count j h S.within (omega arith) S.moved;
      above = λ _. ap (λ (x : Row). lessb (row_key r) (row_key x)) (sym (S.moved.low (j - 1) (omega arith))) ∙ e;
      ticket = S.ticket;
    }

    -- the row below, if there is one, is not above r, which goes here
    module _ (full : b ≡ book_of (rows_of b) b.next_ticket) (R : Rising (rows_of b))
        (stop : (i : ℕ) → suc i ≡ j → lessb (row_key r) (row_key (row_at out.rows i)) ≡ false) where
      count : length (rows_of b) ≡ b.count
      count = count_rows b long (omega arith)

      at : j ≤ length (rows_of b)
      at = omega (arith, S.within, count)

      -- r's test of a row of the list is its test of a row of the array
      test : (i : ℕ) → i < b.count → lessb (row_key r) (row_key (row_at (rows_of b) i)) ≡ lessb (row_key r) (row_key (row_at b.rows i))
      test i h = ap (λ (x : Row). lessb (row_key r) (row_key x)) (get_or-take b.count b.rows i no_row h)

      below : (i : ℕ) → suc i ≡ j → lessb (row_key r) (row_key (row_at (rows_of b) i)) ≡ false
      below i e =
          test i (omega (arith, S.within)) ∙ ap (λ (x : Row). lessb (row_key r) (row_key x)) (sym (S.moved.low i (omega arith))) ∙ stop i e

      goes : insert_row r (rows_of b) ≡ put no_row r (rows_of b) j
      goes = insert_at r (rows_of b) j at (below_stop r (rows_of b) R j at below) (λ h. test j (omega (arith, count)) ∙ S.above (omega (arith, count)))

      more : b.count + 1 ≡ length (insert_row r (rows_of b))
      more = omega (arith, insert_length r (rows_of b), count)

      rows : set out.rows j r ≡ insert_row r (rows_of b) ++ replicate (row_limit - (b.count + 1)) no_row
      rows =
          moved_put no_row r (rows_of b) b.rows out.rows b.count j row_limit count S.within fits long
          (ap (λ (x : Book). x.rows) full ∙ ap (λ (k : ℕ). rows_of b ++ replicate (row_limit - k) no_row) count)
          S.moved
          ∙ ap (λ (l : List Row). l ++ replicate (row_limit - (b.count + 1)) no_row) (sym goes)

      pub shift_done : ◌≡◌ {A = Book} (record { rows = set out.rows j r; count = b.count + 1; next_ticket = out.next_ticket }) (book_of (insert_row r (rows_of b)) b.next_ticket)
      shift_done = book_eq _ _ (rows ∙ ap (λ (k : ℕ). insert_row r (rows_of b) ++ replicate (row_limit - k) no_row) more) more S.ticket
