-- Books in array form: a book whose counts are good is the array form of its rows, and the array form of well-formed rows is a good book.
-- Both hold because the slots past the count are empty rows.
use Rattle.std.specs.Prelude.{◌≡◌, refl, List, ◌++◌, ℕ, ◌+◌, ◌-◌, ◌<◌, ◌≤◌, length, take, drop, replicate, get_or}
use Rattle.std.proofs.Common.{sym, ap, subst, ◌∙◌, arith, length-drop, take-append-drop, length-take-le, get_or-append-add, ext_get_or, get_or-drop}
use Rattle.std.proofs.lemmas.List.{length-replicate, get_or-replicate}
use Rattle.std.proofs.Math.Seq.{take-append_seam}
use Rattle.rules.specs.declared.Row.{Row}
use Rattle.rules.specs.declared.Book.{Book}
use Rattle.rules.specs.Limits.{row_limit}
use Rattle.rules.specs.Map.{Yard}
use Rattle.rules.specs.Rows.{no_row}
use Rattle.rules.specs.Book.{WellFormed, CountedBook, GoodBook, rows_of, book_of}
use Rattle.rules.specs.GateLaws.{formed_as}

pub book_eq : (a b : Book) → a.rows ≡ b.rows → a.count ≡ b.count → a.next_ticket ≡ b.next_ticket → a ≡ b
book_eq a b p q r = λ i. record { rows = p i; count = q i; next_ticket = r i }

-- for any size
module _ {A : Type 0} (z : A) (n : ℕ) where
  pub filled : (l : List A) (c : ℕ) → length l ≡ n → c ≤ n → ((i : ℕ) → c ≤ i → i < n → get_or l i z ≡ z) → l ≡ take c l ++ replicate (n - c) z
  filled l c e h f =
      sym (take-append-drop c l)
      ∙ ap (λ (r : List A). take c l ++ r)
      (ext_get_or z (drop c l) (replicate (n - c) z) (length-drop c l ∙ ap (λ (m : ℕ). m - c) e ∙ sym (length-replicate (n - c) z))
      (λ i k. let d = length-drop c l in
      get_or-drop c l i z ∙ f (c + i) (omega arith) (omega arith) ∙ sym (get_or-replicate (n - c) i z z (omega arith))))

  pub past_end : (l : List A) (i : ℕ) → length l ≤ i → i < n → get_or (l ++ replicate (n - length l) z) i z ≡ z
  past_end l i h k =
      let e : i ≡ length l + (i - length l) = omega arith in
      ap (λ (j : ℕ). get_or (l ++ replicate (n - length l) z) j z) e
      ∙ get_or-append-add l (replicate (n - length l) z) (i - length l) z
      ∙ get_or-replicate (n - length l) (i - length l) z z (omega arith)

pub rows_of_book : (rows : List Row) (t : ℕ) → rows_of (book_of rows t) ≡ rows
rows_of_book rows t = take-append_seam rows (replicate (row_limit - length rows) no_row)

pub count_rows : (b : Book) → length b.rows ≡ 1024 → b.count ≤ 1024 → length (rows_of b) ≡ b.count
count_rows b e h = length-take-le b.count b.rows (omega arith)

pub book_of_rows : {Y : Yard} (b : Book) → CountedBook Y b → length b.rows ≡ 1024 → b ≡ book_of (rows_of b) b.next_ticket
book_of_rows b G e =
    let c = count_rows b e G.fits in
    book_eq b (book_of (rows_of b) b.next_ticket)
    (filled no_row row_limit b.rows b.count e G.fits G.spare ∙ ap (λ (n : ℕ). rows_of b ++ replicate (row_limit - n) no_row) (sym c))
    (sym c)
    refl

pub good_book : {Y : Yard} {rows : List Row} {t : ℕ} → WellFormed Y rows t → GoodBook Y (book_of rows t)
good_book {Y} {rows} {t} W =
    formed_as (λ c. record { fits = W.counted.few; spare = λ i h k. past_end no_row row_limit rows i h k; counts = c })
    (subst (λ (l : List Row). WellFormed Y l t) (sym (rows_of_book rows t)) W)

-- the rows of a good book
pub book_formed : {Y : Yard} {b : Book} → GoodBook Y b → WellFormed Y (rows_of b) b.next_ticket
book_formed G = formed_as (λ c. c.counts) G
