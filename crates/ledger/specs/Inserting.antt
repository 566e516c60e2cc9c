-- For callers: what a book that is the array form of a list has, and rows put in one after the other. New rows whose keys are all different and none
-- in the book keep it in key order, so that each next row can be put in.
use Rattle.std.specs.Prelude.{◌≡◌, refl, ℕ, ◌+◌, ◌-◌, ◌<◌, ◌≤◌, length, take, replicate}
use Rattle.std.proofs.Common.{sym, ap, subst, ◌∙◌, add-one, arith, length-append, take-suc, length-take-le, get_or-take}
use mathlib.Core.List.{List, [], ◌∷◌, ◌++◌, Memᴰ}
use Rattle.std.proofs.lemmas.List.{length-replicate}
use Rattle.std.proofs.Math.Seq.{take-length}
use Rattle.laws.specs.Lists.{mem_index, index_mem}
use Rattle.rules.specs.declared.Row.{Row}
use Rattle.rules.specs.declared.Book.{Book}
use Rattle.rules.specs.Limits.{row_limit}
use Rattle.rules.specs.Rows.{row_key, no_row, row_at, Rising, insert_row, insert_all}
use Rattle.rules.specs.Book.{rows_of, book_of}
use Rattle.keeping.specs.Changes.{AllNew, all_length, all_rising}
use Rattle.keeping.specs.Books.{rows_of_book}

-- ---- a book that is the array form of a list

module _ {b : Book} (l : List Row) (t : ℕ) (e : b ≡ book_of l t) where
  pub rows_held : rows_of b ≡ l
  rows_held = ap rows_of e ∙ rows_of_book l t

  pub count_held : b.count ≡ length l
  count_held = ap (λ (x : Book). x.count) e

  pub ticket_held : b.next_ticket ≡ t
  ticket_held = ap (λ (x : Book). x.next_ticket) e

  -- it is the array form of its own rows
  pub book_held : b ≡ book_of (rows_of b) b.next_ticket
  book_held = e ∙ ap (λ (m : List Row). book_of m t) (sym rows_held) ∙ ap (book_of (rows_of b)) (sym ticket_held)

  pub rising_held : Rising l → Rising (rows_of b)
  rising_held R = subst Rising (sym rows_held) R

  -- what a change makes of its rows, said of the list
  pub change_held : (f : List Row → List Row) {s : Book} → s ≡ book_of (f (rows_of b)) b.next_ticket → s ≡ book_of (f l) t
  change_held f g = g ∙ ap (λ (m : List Row). book_of (f m) b.next_ticket) rows_held ∙ ap (book_of (f l)) ticket_held

-- ---- several rows put in, one after the other

insert_append : (a c rows : List Row) → insert_all (a ++ c) rows ≡ insert_all c (insert_all a rows)
insert_append [] c rows = refl
insert_append (r ∷ a) c rows = insert_append a c (insert_row r rows)

pub insert_more : (new rows : List Row) (i : ℕ) → i < length new → insert_all (take (i + 1) new) rows ≡ insert_row (row_at new i) (insert_all (take i new) rows)
insert_more new rows i h = rw (add-one, take-suc new i no_row h) (insert_append (take i new) (row_at new i ∷ []) rows)

-- the first of several new rows
new_take : (new rows : List Row) (i : ℕ) → i ≤ length new → AllNew new rows → AllNew (take i new) rows
new_take new rows i h N =
    let n = length-take-le i new h in
    record {
      fresh = λ x m.
          let k = mem_index no_row m in
          N.fresh x (subst (λ (y : Row). Memᴰ y new) (sym (get_or-take i new k.0 no_row (omega (arith, k.1))) ∙ k.2) (index_mem no_row new k.0 (omega (arith, k.1))));
      apart = λ a c d l e. N.apart a c d (omega arith) (ap row_key (sym (get_or-take i new a no_row (omega arith))) ∙ e ∙ ap row_key (get_or-take i new c no_row (omega arith)));
    }

-- s is the book of these rows with the first i of the new ones put in; the others can be put in too
pub record Inserting (new rows : List Row) (t i : ℕ) (s : Book) : Type 0 where
  pub within : i ≤ length new
  pub holds : s ≡ book_of (insert_all (take i new) rows) t
  pub rising : Rising rows
  pub all_new : AllNew new rows
  pub fits : length rows + length new ≤ row_limit

module _ {new rows : List Row} {t : ℕ} where
  pub inserted_start : {b : Book} → b ≡ book_of rows t → Rising rows → AllNew new rows → length rows + length new ≤ row_limit → Inserting new rows t 0 b
  inserted_start e R N f = record { within = omega arith; holds = e; rising = R; all_new = N; fits = f }

  module _ {i : ℕ} {s : Book} (I : Inserting new rows t i s) where
    -- what `insert` asks
    pub inserted_ready : i < length new → (s.count < row_limit) × ((s ≡ book_of (rows_of s) s.next_ticket) × Rising (rows_of s))
    inserted_ready h =
        let w = I.within in (
          omega (arith, count_held (insert_all (take i new) rows) t I.holds, all_length (take i new) rows, length-take-le i new w, I.fits),
          (book_held (insert_all (take i new) rows) t I.holds, rising_held (insert_all (take i new) rows) t I.holds (all_rising (take i new) rows I.rising (new_take new rows i w I.all_new))),
        )

    pub inserted_long : length s.rows ≡ row_limit
    inserted_long =
        let l = insert_all (take i new) rows in
        omega (arith, ap (λ (x : Book). length x.rows) I.holds, length-append l (replicate (row_limit - length l) no_row), length-replicate {A = Row} (row_limit - length l) no_row, all_length (take i new) rows, length-take-le i new I.within, I.fits)

    pub inserted_next : {r : Row} {s' : Book} → i < length new → r ≡ row_at new i → s' ≡ book_of (insert_row r (rows_of s)) s.next_ticket
        → Inserting new rows t (i + 1) s'
    inserted_next {r} h e g = record {
      within = omega arith;
      holds = change_held (insert_all (take i new) rows) t I.holds (insert_row r) g
          ∙ ap (λ (x : Row). book_of (insert_row x (insert_all (take i new) rows)) t) e
          ∙ ap (λ (l : List Row). book_of l t) (sym (insert_more new rows i h));
      rising = I.rising;
      all_new = I.all_new;
      fits = I.fits;
    }

    -- all are put in
    pub inserted_all : i ≡ length new → s ≡ book_of (insert_all new rows) t
    inserted_all e = I.holds ∙ ap (λ (l : List Row). book_of (insert_all l rows) t) (ap (λ (k : ℕ). take k new) e ∙ take-length new)
