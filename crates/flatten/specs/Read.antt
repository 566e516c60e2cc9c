-- A book read into arrays, or given 1,025 rows where it could not be: its counts and numbers are good there exactly where the book's are.
use Rattle.std.specs.Prelude.{ℕ, ◌≡◌, refl, Bool, true, false, List}
use Rattle.std.proofs.Common.{ap, ◌∙◌, ⊎_elim, arith}
use Rattle.laws.specs.Tests.{true_or_false, not_both}
use Rattle.rules.specs.declared.Book.{Book}
use Rattle.rules.specs.Map.{Yard}
use Rattle.rules.specs.Book.{Counted, CountedBook, rows_of}
use Rattle.flat.specs.Flat.{rows_in}
use Rattle.flat.specs.Laws.{rows_long}
use Rattle.flatten.specs.Books.{BookFlat}

-- the arrays hold the book's rows, count of them; 1,025 where they can't
pub record BookRead (b : Book) (K X : List ℕ) (count : ℕ) : Type 0 where
  pub read : Bool
  pub flat : BookFlat b K X read
  pub whole : read ≡ true → count ≡ b.count
  pub none : read ≡ false → count ≡ 1025

module _ {b : Book} {K X : List ℕ} where
  pub read_all : BookFlat b K X true → BookRead b K X b.count
  read_all F = record { read = true; flat = F; whole = λ _. refl; none = λ q. absurd (not_both refl q) }

module _ {b : Book} {K X : List ℕ} {count : ℕ} (R : BookRead b K X count) where
  pub read_rows : R.read ≡ true → rows_in K X count ≡ rows_of b
  read_rows t = ap (rows_in K X) (R.whole t) ∙ R.flat.rows t

  module _ {Y : Yard} where
    -- 1,025 rows are too many
    pub read_true : Counted Y (rows_in K X count) b.next_ticket → R.read ≡ true
    read_true C = ⊎_elim (λ t. t) (λ f. absurd (omega (arith, C.few, rows_long K X count, R.none f))) (true_or_false R.read)

    pub read_counted : Counted Y (rows_in K X count) b.next_ticket → CountedBook Y b
    read_counted C =
        let t = read_true C in
        record { fits = R.flat.fits t; spare = R.flat.spare t; counts = rw (read_rows t) at C }

    pub counted_read : CountedBook Y b → Counted Y (rows_in K X count) b.next_ticket
    counted_read G = rw (read_rows (R.flat.told Y G)) G.counts
