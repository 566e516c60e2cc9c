-- Of each book there is exactly one thing to say: it is good, or it has this fault at this row. The checks are gone through in their order; the first that
-- fails names its row, and if none fails the book is good.
use Rattle.std.specs.Prelude.{ℕ, ◌≡◌, refl, ◌⊎◌, List}
use Rattle.std.proofs.Common.{inl, inr, ⊎_elim, arith}
use Rattle.rules.specs.declared.Row.{Row}
use Rattle.rules.specs.declared.Map.{Map}
use Rattle.rules.specs.declared.Book.{Book}
use Rattle.rules.specs.Map.{Yard, GoodMap, map_yard}
use Rattle.rules.specs.Rows.{Rising}
use Rattle.rules.specs.Book.{AllWhole, Room, Unbarred, Formed, CountedBook, rows_of}
use Rattle.rules.specs.Fault.{FirstBad, BrokenAt, Fault}
use Rattle.rules.specs.Fault.Fault.{miscounted, unrising, broken, overfull, barred}
use Rattle.rules.specs.GateLaws.{fault_unique, fault_breaks}
use Rattle.rules.specs.Portal.{MapSlice, CountedSlice, slice_yard, slice_rows}
use Rattle.lanes.specs.Yards.{YardRules, yard_rules}
use Rattle.faults.specs.Checks.{rising_or_first, room_or_first, unbarred_or_first}
use Rattle.faults.specs.Broken.{whole_or_broken}
use Rattle.faults.specs.Counts.{counted_book?, counted_slice?}
use Rattle.faults.specs.Rows.{fault_row}

pub good_or_faulty : {counts : Type 0} {Y : Yard} (rows : List Row) → YardRules Y → Dec counts → Formed counts Y rows ⊎ ((n : ℕ) × (i : ℕ) × Fault counts Y rows n i)
good_or_faulty rows rules (no f) = inr (2, 0, miscounted f)
good_or_faulty {counts} {Y} rows rules (yes c) = rises (rising_or_first rows)
  where
    Said : Type 0
    Said = Formed counts Y rows ⊎ ((n : ℕ) × (i : ℕ) × Fault counts Y rows n i)

    crosses : Rising rows → AllWhole Y rows → Room Y rows → Unbarred rows ⊎ ((i : ℕ) × FirstBad Unbarred rows i) → Said
    crosses R W M (inl U) = inl (record { counted = c; rising = R; whole = W; room = M; exchange = U })
    crosses R W M (inr x) = inr (16, x.0, barred c R W M x.1)

    holds : Rising rows → AllWhole Y rows → Room Y rows ⊎ ((i : ℕ) × FirstBad (Room Y) rows i) → Said
    holds R W (inl M) = crosses R W M (unbarred_or_first rows)
    holds R W (inr x) = inr (15, x.0, overfull c R W x.1)

    runs : Rising rows → AllWhole Y rows ⊎ ((i : ℕ) × BrokenAt Y rows i) → Said
    runs R (inl W) = holds R W (room_or_first Y rows)
    runs R (inr x) = inr (14, x.0, broken c R x.1)

    rises : Rising rows ⊎ ((i : ℕ) × FirstBad Rising rows i) → Said
    rises (inl R) = runs R (whole_or_broken rules rows)
    rises (inr x) = inr (13, x.0, unrising c x.1)

-- what is said of a book: number and row of its fault, or 0 and 0 of a good one
pub data Verdict (counts : Type 0) (Y : Yard) (rows : List Row) : ℕ → ℕ → Type 0 where
  good : Formed counts Y rows → Verdict counts Y rows 0 0
  faulty : {n i : ℕ} → Fault counts Y rows n i → Verdict counts Y rows n i

module _ {counts : Type 0} {Y : Yard} {rows : List Row} where
  pub verdict_exists : YardRules Y → Dec counts → (n : ℕ) × (i : ℕ) × Verdict counts Y rows n i
  verdict_exists rules d = said (good_or_faulty rows rules d)
    where
      said : Formed counts Y rows ⊎ ((n : ℕ) × (i : ℕ) × Fault counts Y rows n i) → (n : ℕ) × (i : ℕ) × Verdict counts Y rows n i
      said (inl G) = (0, 0, Verdict.good G)
      said (inr x) = (x.0, x.1, Verdict.faulty x.2)

  pub verdict_unique : {n i m j : ℕ} → Verdict counts Y rows n i → Verdict counts Y rows m j → (n ≡ m) × (i ≡ j)
  verdict_unique (Verdict.good G) (Verdict.good H) = (refl, refl)
  verdict_unique (Verdict.good G) (Verdict.faulty F) = absurd (fault_breaks F G)
  verdict_unique (Verdict.faulty F) (Verdict.good G) = absurd (fault_breaks F G)
  verdict_unique (Verdict.faulty E) (Verdict.faulty F) = fault_unique E F

  -- 0 is said of a good book only
  pub verdict_good : {i : ℕ} → Verdict counts Y rows 0 i → Formed counts Y rows
  verdict_good v = by v refl
    where
      by : {n i : ℕ} → Verdict counts Y rows n i → n ≡ 0 → Formed counts Y rows
      by (Verdict.good G) e = G
      by (Verdict.faulty F) e = absurd (⊎_elim (λ x. omega (arith, x.0)) (λ x. omega (arith, x.0)) (fault_row rows F))

-- there is one verdict and no other
pub record OneVerdict (counts : Type 0) (Y : Yard) (rows : List Row) : Type 0 where
  pub number : ℕ
  pub row : ℕ
  pub is : Verdict counts Y rows number row
  pub only : (n i : ℕ) → Verdict counts Y rows n i → (n ≡ number) × (i ≡ row)

pub one_verdict : {counts : Type 0} {Y : Yard} (rows : List Row) → YardRules Y → Dec counts → OneVerdict counts Y rows
one_verdict rows rules d = let x = verdict_exists {rows = rows} rules d in record { number = x.0; row = x.1; is = x.2; only = λ n i v. verdict_unique v x.2 }

-- by value
pub book_verdict : (m : Map) (b : Book) → GoodMap m → OneVerdict (CountedBook (map_yard m) b) (map_yard m) (rows_of b)
book_verdict m b M = one_verdict (rows_of b) (yard_rules M.rules) (counted_book? (map_yard m) b)

-- as slices
pub slice_verdict : (map book : List ℕ) → MapSlice map → OneVerdict (CountedSlice (slice_yard map) book) (slice_yard map) (slice_rows book)
slice_verdict map book M = one_verdict (slice_rows book) (yard_rules M.rules) (counted_slice? (slice_yard map) book)
