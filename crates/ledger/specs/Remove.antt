-- Rows that a test keeps, written one after the other into an empty array: each goes into the first slot behind those before it, so that empty slots
-- stay behind. And a ticket is known exactly when the test for its rows keeps one.
use Rattle.std.specs.Prelude.{◌≡◌, refl, Bool, true, false, ℕ, ◌+◌, ◌-◌, ◌<◌, ◌≤◌, length, take, set, replicate}
use Rattle.std.proofs.Common.{sym, ap, ◌∙◌, add-one, arith, length-append, take-suc, length-take-le, eq-eqb, eqb-true}
use mathlib.Core.List.Memᴰ
use mathlib.Core.List.{List, [], ◌∷◌, ◌++◌, append-nil, Memᴰ}
use Rattle.laws.specs.Lists.{index_mem}
use Rattle.rules.specs.declared.Row.{Row}
use Rattle.rules.specs.declared.Book.{Book}
use Rattle.rules.specs.Limits.{row_limit}
use Rattle.rules.specs.Rows.{no_row, row_at, choose, keep}
use Rattle.rules.specs.Book.{rows_of, book_of, of_ticket, other_ticket}
use Rattle.rules.specs.Answer.{Known}
use Rattle.keeping.specs.Changes.{keep_mem, mem_keep, keep_le, keep_count}
use Rattle.keeping.specs.Books.{book_eq, count_rows}
use Rattle.ledger.specs.Lists.{filled_next}

module _ (f : Row → Bool) where
  choose_append : (t : Bool) (x : Row) (a b : List Row) → choose t x (a ++ b) ≡ choose t x a ++ b
  choose_append true x a b = refl
  choose_append false x a b = refl

  keep_append : (a b : List Row) → keep f (a ++ b) ≡ keep f a ++ keep f b
  keep_append [] b = refl
  keep_append (x ∷ a) b = ap (choose (f x) x) (keep_append a b) ∙ choose_append (f x) x (keep f a) (keep f b)

  -- one row more to look at
  keep_more : (l : List Row) (i : ℕ) → i < length l → keep f (take (i + 1) l) ≡ keep f (take i l) ++ choose (f (row_at l i)) (row_at l i) []
  keep_more l i h = rw (add-one, take-suc l i no_row) (keep_append (take i l) (row_at l i ∷ []))

  keep_yes : (l : List Row) (i : ℕ) → i < length l → f (row_at l i) ≡ true → keep f (take (i + 1) l) ≡ keep f (take i l) ++ (row_at l i ∷ [])
  keep_yes l i h e = keep_more l i h ∙ ap (λ (t : Bool). keep f (take i l) ++ choose t (row_at l i) []) e

  keep_no : (l : List Row) (i : ℕ) → i < length l → f (row_at l i) ≡ false → keep f (take (i + 1) l) ≡ keep f (take i l)
  keep_no l i h e = keep_more l i h ∙ ap (λ (t : Bool). keep f (take i l) ++ choose t (row_at l i) []) e ∙ append-nil (keep f (take i l))

  -- of the first i rows, those kept stand in the array out, and there are k of them
  pub record Kept (rows out : List Row) (k i : ℕ) : Type 0 where
    pub stand : out ≡ keep f (take i rows) ++ replicate (row_limit - k) no_row
    pub counts : k ≡ length (keep f (take i rows))

  module _ {rows out : List Row} {k i : ℕ} (K : Kept rows out k i) where
    pub kept_le : i ≤ length rows → k ≤ i
    kept_le h = omega (arith, K.counts, keep_le f (take i rows), length-take-le i rows h)

    pub kept_next : {out' : List Row} {k' : ℕ} → i < length rows → i < row_limit → f (row_at rows i) ≡ true → out' ≡ set out k (row_at rows i) → k' ≡ k + 1
        → Kept rows out' k' (i + 1)
    kept_next {out'} {k'} h fits t o c =
        let p = keep f (take i rows) in
        let q = p ++ (row_at rows i ∷ []) in
        let e = keep_yes rows i h t in
        let n : k' ≡ length q = c ∙ simp length-append (omega (arith, K.counts)) in
        record {
          stand = o ∙ rw (K.stand, K.counts) (filled_next no_row row_limit p (row_at rows i) (omega (arith, K.counts, kept_le (omega arith))))
              ∙ ap (λ (m : ℕ). q ++ replicate (row_limit - m) no_row) (sym n)
              ∙ ap (λ (l : List Row). l ++ replicate (row_limit - k') no_row) (sym e);
          counts = n ∙ ap length (sym e);
        }

    pub kept_same : {out' : List Row} {k' : ℕ} → i < length rows → f (row_at rows i) ≡ false → out' ≡ out → k' ≡ k → Kept rows out' k' (i + 1)
    kept_same h t o c =
        let e = keep_no rows i h t in
        record {
          stand = o ∙ K.stand ∙ ap (λ (l : List Row). l ++ replicate (row_limit - k) no_row) (sym e) ∙ ap (λ (m : ℕ). keep f (take (i + 1) rows) ++ replicate (row_limit - m) no_row) (sym c);
          counts = c ∙ K.counts ∙ ap length (sym e);
        }

-- all rows looked at
module _ (ticket : ℕ) (b out : Book) (k : ℕ) (long : length b.rows ≡ row_limit) (fits : b.count ≤ row_limit)
    (K : Kept (other_ticket ticket) b.rows out.rows k b.count) where
  pub kept_book : ◌≡◌ {A = Book} (record { rows = out.rows; count = k; next_ticket = b.next_ticket }) (book_of (keep (other_ticket ticket) (rows_of b)) b.next_ticket)
  kept_book =
      book_eq _ _ (K.stand ∙ ap (λ (n : ℕ). keep (other_ticket ticket) (rows_of b) ++ replicate (row_limit - n) no_row) K.counts) K.counts refl

  -- the others are the ticket's
  pub kept_count : b.count - k ≡ length (keep (of_ticket ticket) (rows_of b))
  kept_count =
      let c = keep_count (of_ticket ticket) (rows_of b) in
      let n = count_rows b long fits in
      omega (arith, K.counts)

-- ---- a ticket is known exactly when a row of it is counted

module _ (rows : List Row) (ticket : ℕ) where
  pub counted_known : 0 < length (keep (of_ticket ticket) rows) → Known rows ticket
  counted_known h =
      let x = row_at (keep (of_ticket ticket) rows) 0 in
      let m = mem_keep (of_ticket ticket) x rows (index_mem no_row (keep (of_ticket ticket) rows) 0 h) in
      record { row = x; booked = m.0; has = eqb-true x.ticket ticket m.1 }

  pub none_counted : length (keep (of_ticket ticket) rows) ≡ 0 → Known rows ticket → ⊥
  none_counted e K = go (keep (of_ticket ticket) rows) e (keep_mem (of_ticket ticket) (eq-eqb K.row.ticket ticket K.has) K.booked)
    where
      go : (l : List Row) → length l ≡ 0 → Memᴰ K.row l → ⊥
      go [] e m = Memᴰ.not-nil m
      go (x ∷ l) e m = omega arith
