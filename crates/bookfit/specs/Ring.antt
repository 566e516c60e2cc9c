-- The exchange rule by index over keys and tails. A row is ringed where it goes on and is barred. One of the crossings that lead back to its place
-- enters it when the row leaves, so the row is a candidate; and the first of them is ringed again. So where numbers fall from each ringed row to the
-- ringed rows that leave its next place then, no row is ringed.
use Rattle.std.specs.Prelude.{ℕ, ◌+◌, ◌≤◌, ◌<◌, ◌≡◌, refl, length, set, take}
use Rattle.std.proofs.Common.{sym, subst, ◌∙◌, arith, length-set, get_or-set_same, get_or-set_other}
use Rattle.std.proofs.lemmas.List.{length-take, get_or-take}
use mathlib.Core.List.{List, Memᴰ}
use Rattle.laws.specs.Order.{strong}
use Rattle.laws.specs.Lists.{at}
use Rattle.rules.specs.declared.Row.{Row}
use Rattle.rules.specs.Rows.{Crossing, Leads, Barred}
use Rattle.rules.specs.Rows.Leads.{one, via}
use Rattle.rules.specs.RowLaws.{row_crossing, crossing_apart, then, leads_fewer}
use Rattle.rules.specs.Book.{Unbarred}
use Rattle.flat.specs.Flat.{place_of, exit_of, next_value, row_of, rows_in}
use Rattle.flat.specs.Crossings.{row_of_lem, index_of, crossing_goes}
use Rattle.lookup.specs.Keys.{Entered}
use Rattle.lookup.specs.Crossings.{ByPlace, leads_enters}
use Rattle.bookfit.specs.Each.{below_next}
use Rattle.bookfit.specs.Join.{IsLast}

-- row i leaves place q at t
pub record Leaves (K X : List ℕ) (q t i : ℕ) : Type 0 where
  pub from : place_of (at K i) ≡ q
  pub when : exit_of (at X i) ≡ t

-- row k leaves the next place of row i when i enters it
abbrev pub Follows : (K X : List ℕ) (i k : ℕ) → Type 0
Follows K X i k = Leaves K X (next_value (at X i)) (exit_of (at X i)) k

-- row i goes on, out of a place that another enters then
pub record Candidate (K X : List ℕ) (n i : ℕ) : Type 0 where
  pub goes_on : IsLast (at K i) (at X i) → ⊥
  pub entered : Entered K n (place_of (at K i)) (exit_of (at X i))

-- row i goes on and is barred
pub record Ringed (K X : List ℕ) (n i : ℕ) : Type 0 where
  pub within : i < n
  pub goes_on : IsLast (at K i) (at X i) → ⊥
  pub barred : Barred (rows_in K X n) (place_of (at K i)) (next_value (at X i)) (exit_of (at X i))

module _ (K X : List ℕ) (n : ℕ) where
  pub unbarred_unringed : Unbarred (rows_in K X n) → (i : ℕ) → Ringed K X n i → ⊥
  unbarred_unringed U i R = U (row_of (at K i) (at X i)) (row_of_lem K X n i R.within) R.goes_on R.barred

  pub unringed_unbarred : ((i : ℕ) → Ringed K X n i → ⊥) → Unbarred (rows_in K X n)
  unringed_unbarred f r m =
      let x = index_of K X n m in
      subst (λ (r : Row). (r.next ≡ r.place → ⊥) → Barred (rows_in K X n) r.place r.next r.exit → ⊥) x.2
      (λ g b. f x.0 (record { within = x.1; goes_on = g; barred = b }))

  -- the row of a crossing whose end leads back to its start
  ringed_by : {q x t : ℕ} → Crossing (rows_in K X n) q x t → Leads (rows_in K X n) t x q → (k : ℕ) × Leaves K X q t k × Ringed K X n k
  ringed_by c l =
      let g = crossing_goes K X n c in
      let a = g.2 in (
        g.0,
        record { from = a.from; when = a.when },
        record { within = g.1; goes_on = λ e. crossing_apart c (sym a.from ∙ sym e ∙ a.to); barred = rw (a.from, a.to, a.when) l },
      )

  ringed_next : (i : ℕ) → Ringed K X n i → (k : ℕ) × Follows K X i k × Ringed K X n k
  ringed_next i R = by R.barred (row_crossing (row_of (at K i) (at X i)) (row_of_lem K X n i R.within) R.goes_on)
    where
      by : {p q t : ℕ} → Leads (rows_in K X n) t q p → Crossing (rows_in K X n) p q t → (k : ℕ) × Leaves K X q t k × Ringed K X n k
      by (one c) d = ringed_by c (one d)
      by (via c l) d = ringed_by c (then l (one d))

  -- among n rows of a book: what leads back among them leads back in the book, where each row that goes on has its next row
  pub ringed_candidate : {count : ℕ} → ByPlace K X count → n ≤ count → (i : ℕ) → Ringed K X n i → Candidate K X count i
  ringed_candidate {count} B h i R = record { goes_on = R.goes_on; entered = leads_enters B (leads_fewer among R.barred) }
    where
      among : (r : Row) → Memᴰ r (rows_in K X n) → Memᴰ r (rows_in K X count)
      among r m = let x = index_of K X n m in subst (λ (r : Row). Memᴰ r (rows_in K X count)) x.2 (row_of_lem K X count x.0 (omega (arith, x.1)))

  pub falling_unringed : (R : ℕ → ℕ) → ((i k : ℕ) → Ringed K X n i → Follows K X i k → Ringed K X n k → R k < R i) → (i : ℕ) → Ringed K X n i → ⊥
  falling_unringed R f i G = strong (λ v. (i : ℕ) → R i ≡ v → Ringed K X n i → ⊥) step (R i) i refl G
    where
      step : (v : ℕ) → ((u : ℕ) → u < v → (i : ℕ) → R i ≡ u → Ringed K X n i → ⊥) → (i : ℕ) → R i ≡ v → Ringed K X n i → ⊥
      step v up i e G = let k = ringed_next i G in up (R k.0) (omega (arith, f i k.0 G k.1 k.2)) k.0 refl k.2

-- ---- rows listed in their order: m rows L among the first c, each of which goes on, and with them all of which P holds

pub record Listed (P : ℕ → Type 0) (K X : List ℕ) (c : ℕ) (L : List ℕ) (m : ℕ) : Type 0 where
  pub few : m ≤ c
  pub within : (j : ℕ) → j < m → at L j < c
  pub rises : (i j : ℕ) → i < j → j < m → at L i < at L j
  pub goes_on : (j : ℕ) → j < m → IsLast (at K (at L j)) (at X (at L j)) → ⊥
  pub all : (i : ℕ) → i < c → P i → (j : ℕ) × (j < m) × (at L j ≡ i)
  pub long : length L ≡ 1024

module _ (P : ℕ → Type 0) (K X : List ℕ) where
  pub listed_start : (L : List ℕ) → length L ≡ 1024 → Listed P K X 0 L 0
  listed_start L e = record {
    few = omega arith;
    within = λ j h. absurd (omega arith);
    rises = λ i j h k. absurd (omega arith);
    goes_on = λ j h. absurd (omega arith);
    all = λ i h. absurd (omega arith);
    long = e;
  }

  module _ (c : ℕ) (L : List ℕ) (m : ℕ) (A : Listed P K X c L m) where
    pub listed_skip : (P c → ⊥) → Listed P K X (c + 1) L m
    listed_skip f = record {
      few = omega (arith, A.few);
      within = λ j h. omega (arith, A.within j h);
      rises = A.rises;
      goes_on = A.goes_on;
      all = below_next (λ i. P i → (j : ℕ) × (j < m) × (at L j ≡ i)) c A.all (λ C. absurd (f C));
      long = A.long;
    }

    pub listed_put : c < 1024 → (IsLast (at K c) (at X c) → ⊥) → Listed P K X (c + 1) (set L m c) (m + 1)
    listed_put h g = record {
      few = omega (arith, A.few);
      within = below_next (λ j. at M j < c + 1) m (λ j k. omega (arith, old j k, A.within j k)) (omega (arith, new));
      rises = λ i j k l. below_next (λ j. i < j → at M i < at M j) m
          (λ j l k. omega (arith, old i (omega arith), old j l, A.rises i j k l)) (λ k. omega (arith, old i k, new, A.within i k)) j l k;
      goes_on = below_next (λ j. IsLast (at K (at M j)) (at X (at M j)) → ⊥) m (λ j k. rw (old j k) (A.goes_on j k)) (rw new g);
      all = below_next (λ i. P i → (j : ℕ) × (j < m + 1) × (at M j ≡ i)) c
          (λ i k C. let a = A.all i k C in (a.0, omega (arith, a.1), old a.0 a.1 ∙ a.2)) (λ _. (m, omega arith, new));
      long = length-set L m c ∙ A.long;
    }
      where
        M : List ℕ
        M = set L m c

        old : (j : ℕ) → j < m → at M j ≡ at L j
        old j k = get_or-set_other L m j c 0 (λ e. omega arith)

        new : at M m ≡ c
        new = get_or-set_same L m c 0 (omega (arith, A.few, A.long))

-- with all of which P holds, all of which Q holds
pub listed_as : {P Q : ℕ → Type 0} {K X : List ℕ} {c : ℕ} {L : List ℕ} {m : ℕ} → ((i : ℕ) → Q i → P i) → Listed P K X c L m → Listed Q K X c L m
listed_as f A = record { few = A.few; within = A.within; rises = A.rises; goes_on = A.goes_on; all = λ i h q. A.all i h (f i q); long = A.long }

-- what stands in the first m of a list stands in the list
pub taken_at : (L : List ℕ) (m j : ℕ) → j < length (take m L) → (j < m) × (at (take m L) j ≡ at L j)
taken_at L m j h = let k : j < m = omega (arith, length-take m L) in (k, get_or-take m L j 0 k)
