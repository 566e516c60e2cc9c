-- What the test of a book answers: the number of free windows where the book is well formed, else what is wrong with it and at which row.
use Rattle.std.specs.Prelude.{ℕ, ◌+◌, ◌≤◌, ◌<◌, ◌≡◌, refl, Option, Some, Result, Ok, Err, List, length}
use Rattle.std.proofs.Common.{arith}
use Rattle.laws.specs.Lists.{at}
use Rattle.rules.specs.declared.Refusal.{Refusal}
use Rattle.rules.specs.declared.Refusal.TheVariants.{BadBook, KeysFall, BrokenRun, Overfull, Barred}
use Rattle.rules.specs.Limits.{row_limit, ticket_limit}
use Rattle.rules.specs.Map.{MapRules, linked}
use Rattle.rules.specs.Rows.{Rising}
use Rattle.rules.specs.Book.{Counted, Unbarred, WellFormed}
use Rattle.rules.specs.Answer.{number, fault_row}
use Rattle.rules.specs.Fault.{Fault}
use Rattle.rules.specs.Fault.Fault.{miscounted, unrising, broken, overfull, barred}
use Rattle.lanes.specs.Yards.{yard_rules}
use Rattle.lanes.specs.Nodes.{Windows}
use Rattle.flat.specs.Flat.{places_in, links_in, yard_in, Of, rows_in, span_at, Grouped}
use Rattle.flat.specs.Laws.{links_long, rows_long, yard_of}
use Rattle.lookup.specs.Order.{keys_rising}
use Rattle.windows.specs.Places.{AllWindows}
use Rattle.bookfit.specs.Least.{Lowest, LowestAt, LowestRow}
use Rattle.bookfit.specs.Rows.{AllInRange, Fits, OnMap}
use Rattle.bookfit.specs.Prefix.{FirstAt}
use Rattle.bookfit.specs.Formed.{counted_ranges, Capped, capped_room, capped_first, Numbered, Ordered, RunsIn, Running, numbered_counts, runs_whole, row_broken}

-- the arrays lent for windows
pub record Lent (S E P A : List ℕ) : Type 0 where
  pub len_s : length S ≡ 1280
  pub len_e : length E ≡ 1280
  pub len_p : length P ≡ 1280
  pub len_a : length A ≡ 257

-- r is the first row of the lowest ticket of which a row does not fit, join or end its run once, given the least ticket of one that does not fit
abbrev pub FirstBroken : (K X : List ℕ) (count : ℕ) (unfit r : Option ℕ) → Type 0
FirstBroken K X count unfit r =
    (n k : ℕ) (D F T : List ℕ) → Lowest (Fits n (at D) (linked (links_in F T k)) (at K) (at X)) (at K) count unfit → LowestRow (RunsIn D n F T k K X count) K count r

-- w windows, with each window's place P, start S and end E, and each place's first window A; or a fault
pub data BookFits (C D : List ℕ) (n : ℕ) (F T : List ℕ) (k : ℕ) (K X : List ℕ) (count t : ℕ) (r : Result ℕ Refusal) (S E P A : List ℕ) : Type 0 where
  good : (w : ℕ) → r ≡ Ok w → w < 1281 → WellFormed (yard_in C D n F T k) (rows_in K X count) t → Windows (yard_in C D n F T k) (rows_in K X count) w (span_at P S E)
      → Grouped (at P) A n w → BookFits C D n F T k K X count t r S E P A
  faulty : (x : Refusal) → r ≡ Err x → Fault (Counted (yard_in C D n F T k) (rows_in K X count) t) (yard_in C D n F T k) (rows_in K X count) (number x) (fault_row x)
      → BookFits C D n F T k K X count t r S E P A

pub few_links : (C D : List ℕ) (n : ℕ) (F T : List ℕ) (k : ℕ) → MapRules (places_in C D n) (links_in F T k) → k ≤ 1024
few_links C D n F T k M = omega (arith, M.few_links, links_long F T k)

pub links_on : (C D : List ℕ) (n : ℕ) (F T : List ℕ) (k : ℕ) → MapRules (places_in C D n) (links_in F T k) → OnMap n (linked (links_in F T k))
links_on C D n F T k M p q e = omega (arith, (yard_rules M).to_on p q e, (yard_of C D F T n k M).places)

-- ---- what the book is found to be, check by check

module _ {C D : List ℕ} {n : ℕ} {F T : List ℕ} {k : ℕ} {K X : List ℕ} {count t : ℕ} (Z : Running C D n F T k K X count t) where
  counts : Counted (yard_in C D n F T k) (rows_in K X count) t
  counts = numbered_counts Z.ordered.numbered

  rising : Rising (rows_in K X count)
  rising = keys_rising K X count Z.ordered.rises

  yard : Of (yard_in C D n F T k) C D n
  yard = yard_of C D F T n k Z.ordered.numbered.rules

module _ {C D : List ℕ} {n : ℕ} {F T : List ℕ} {k : ℕ} {K X : List ℕ} {count t : ℕ} {S E P A : List ℕ} where
  -- 2
  pub book_many : row_limit < count → BookFits C D n F T k K X count t (Err BadBook) S E P A
  book_many h = faulty BadBook refl (miscounted (λ W. omega (arith, W.few, rows_long K X count)))

  pub book_ticket : (1 ≤ t → t ≤ ticket_limit → ⊥) → BookFits C D n F T k K X count t (Err BadBook) S E P A
  book_ticket f = faulty BadBook refl (miscounted (λ W. f W.ticket_from W.ticket_to))

  pub book_out : MapRules (places_in C D n) (links_in F T k) → (AllInRange n t (at K) (at X) count → ⊥) → BookFits C D n F T k K X count t (Err BadBook) S E P A
  book_out M f = faulty BadBook refl (miscounted (λ W. f (counted_ranges (yard_of C D F T n k M) K X count t W)))

  -- 13
  pub book_falls : Numbered C D n F T k K X count t → {i : ℕ} → FirstAt Rising K X count i → BookFits C D n F T k K X count t (Err (KeysFall i)) S E P A
  book_falls Z {i} f = faulty (KeysFall i) refl (unrising (numbered_counts Z) f.first)

  -- 14
  pub book_broken : Ordered C D n F T k K X count t → {i : ℕ} → LowestAt (RunsIn D n F T k K X count) K count i
      → BookFits C D n F T k K X count t (Err (BrokenRun (i + 1))) S E P A
  book_broken Z {i} L = faulty (BrokenRun (i + 1)) refl (broken (numbered_counts Z.numbered) (keys_rising K X count Z.rises) (row_broken Z L))

  module _ (Z : Running C D n F T k K X count t) where
    -- 15
    pub book_overfull : {i : ℕ} → FirstAt (Capped n C) K X count i → BookFits C D n F T k K X count t (Err (Overfull i)) S E P A
    book_overfull {i} f = faulty (Overfull i) refl (overfull (counts Z) (rising Z) (runs_whole Z) (capped_first (yard Z) f.first))

    -- 16
    pub book_barred : Capped n C (rows_in K X count) → {i : ℕ} → FirstAt Unbarred K X count i → BookFits C D n F T k K X count t (Err (Barred i)) S E P A
    book_barred room {i} f = faulty (Barred i) refl (barred (counts Z) (rising Z) (runs_whole Z) (capped_room (yard Z) _ room) f.first)

    module _ {r : Option ℕ} {w : ℕ} (all : AllWindows n count C D K X r S E P A) (e : r ≡ Some w) where
      pub book_good : Unbarred (rows_in K X count) → BookFits C D n F T k K X count t (Ok w) S E P A
      book_good B = good w refl (omega (arith, all.bound w e))
          (record { counted = counts Z; rising = rising Z; whole = runs_whole Z; room = capped_room (yard Z) _ (all.fits w e); exchange = B })
          (all.windows w e (yard_in C D n F T k) (yard Z)) (all.by_place w e)
