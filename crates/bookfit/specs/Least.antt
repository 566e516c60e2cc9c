-- The least ticket of the rows at fault, by index over keys: all rows of lower tickets are in order, and a row of this ticket is not. With the ticket's first row.
use Rattle.std.specs.Prelude.{ℕ, ◌+◌, ◌≤◌, ◌<◌, ◌≡◌, refl, min, Option, Some, None, MatchOption, List}
use Rattle.std.proofs.Common.{⊎_elim, arith}
use Rattle.laws.specs.Order.{lt_or_ge}
use Rattle.laws.specs.Lists.{at}
use Rattle.flat.specs.Flat.{ticket_of}
use Rattle.bookfit.specs.Each.{below_next}

-- the lesser of two tickets, where there is one
abbrev pub lesser : Option ℕ → Option ℕ → Option ℕ
lesser None b = b
lesser (Some a) None = Some a
lesser (Some a) (Some b) = Some (min a b)

-- of the first c rows those with tickets below t are in order, and one with ticket t is not
pub record AtFault (Ok : ℕ → Type 0) (K : ℕ → ℕ) (c t : ℕ) : Type 0 where
  pub fine : (i : ℕ) → i < c → ticket_of (K i) < t → Ok i
  pub row : ℕ
  pub within : row < c
  pub has : ticket_of (K row) ≡ t
  pub fails : Ok row → ⊥

-- the least ticket of one of the first c rows that is not in order, none where all are
pub data Lowest (Ok : ℕ → Type 0) (K : ℕ → ℕ) (c : ℕ) : Option ℕ → Type 0 where
  all : ((i : ℕ) → i < c → Ok i) → Lowest Ok K c None
  one : {t : ℕ} → AtFault Ok K c t → Lowest Ok K c (Some t)

module _ (Ok : ℕ → Type 0) (K : ℕ → ℕ) where
  pub lowest_start : Lowest Ok K 0 None
  lowest_start = all (λ i h. absurd (omega arith))

  module _ {c : ℕ} where
    pub lowest_keep : {low : Option ℕ} → Lowest Ok K c low → Ok c → Lowest Ok K (c + 1) low
    lowest_keep (all f) o = all (below_next Ok c f o)
    lowest_keep (one {t = t} L) o = one (record {
      fine = below_next (λ i. ticket_of (K i) < t → Ok i) c L.fine (λ _. o);
      row = L.row;
      within = omega (arith, L.within);
      has = L.has;
      fails = L.fails;
    })

    pub lowest_lower : {low : Option ℕ} → Lowest Ok K c low → (Ok c → ⊥) → Lowest Ok K (c + 1) (lesser low (Some (ticket_of (K c))))
    lowest_lower (all f) g = one (record {
      fine = λ i h k. below_next (λ i. ticket_of (K i) < ticket_of (K c) → Ok i) c (λ i h _. f i h) (λ k. absurd (omega arith)) i h k;
      row = c;
      within = omega arith;
      has = refl;
      fails = g;
    })
    lowest_lower (one {t = t} L) g = ⊎_elim
        (λ (h : t < ticket_of (K c)). one (record {
          fine = below_next (λ i. ticket_of (K i) < min t (ticket_of (K c)) → Ok i) c (λ i h k. L.fine i h (omega arith)) (λ k. absurd (omega arith));
          row = L.row;
          within = omega (arith, L.within);
          has = omega (arith, L.has);
          fails = L.fails;
        }))
        (λ (h : ticket_of (K c) ≤ t). one (record {
          fine = below_next (λ i. ticket_of (K i) < min t (ticket_of (K c)) → Ok i) c (λ i h k. L.fine i h (omega arith)) (λ k. absurd (omega arith));
          row = c;
          within = omega arith;
          has = omega arith;
          fails = g;
        }))
        (lt_or_ge t (ticket_of (K c)))

-- the lesser of two is the least of both
module _ {P Q : ℕ → Type 0} {K : ℕ → ℕ} {c : ℕ} where
  pub lowest_both : {a b : Option ℕ} → Lowest P K c a → Lowest Q K c b → Lowest (λ i. P i × Q i) K c (lesser a b)
  lowest_both (all f) (all g) = all (λ i h. (f i h, g i h))
  lowest_both (all f) (one B) = one (record { fine = λ i h k. (f i h, B.fine i h k); row = B.row; within = B.within; has = B.has; fails = λ o. B.fails o.1 })
  lowest_both (one A) (all g) = one (record { fine = λ i h k. (A.fine i h k, g i h); row = A.row; within = A.within; has = A.has; fails = λ o. A.fails o.0 })
  lowest_both (one {t = a} A) (one {t = b} B) = ⊎_elim
      (λ (h : a < b). one (record { fine = fine; row = A.row; within = A.within; has = omega (arith, A.has); fails = λ o. A.fails o.0 }))
      (λ (h : b ≤ a). one (record { fine = fine; row = B.row; within = B.within; has = omega (arith, B.has); fails = λ o. B.fails o.1 }))
      (lt_or_ge a b)
    where
      fine : (i : ℕ) → i < c → ticket_of (K i) < min a b → P i × Q i
      fine i h k = (A.fine i h (omega arith), B.fine i h (omega arith))

-- ---- the first row of a ticket

abbrev pub NoneOf : List ℕ → ℕ → ℕ → Type 0
NoneOf K c t = (i : ℕ) → i < c → ticket_of (at K i) ≡ t → ⊥

-- row i is the first of ticket t
pub record FirstRow (K : List ℕ) (count t i : ℕ) : Type 0 where
  pub within : i < count
  pub here : ticket_of (at K i) ≡ t
  pub first : NoneOf K i t

abbrev pub FirstOf : List ℕ → ℕ → ℕ → Option ℕ → Type 0
FirstOf K count t r = MatchOption r (NoneOf K count t) (FirstRow K count t)

-- ---- together

-- row i is the first of the lowest ticket of which a row is not in order
pub record LowestAt (Ok : ℕ → Type 0) (K : List ℕ) (count i : ℕ) : Type 0 where
  pub within : i < count
  pub fault : AtFault Ok (at K) count (ticket_of (at K i))
  pub first : NoneOf K i (ticket_of (at K i))

-- that row, none where all rows are in order
abbrev pub LowestRow : (Ok : ℕ → Type 0) (K : List ℕ) (count : ℕ) → Option ℕ → Type 0
LowestRow Ok K count r = MatchOption r ((i : ℕ) → i < count → Ok i) (LowestAt Ok K count)

module _ {Ok : ℕ → Type 0} (K : List ℕ) {count : ℕ} where
  pub lowest_none : {low : Option ℕ} → Lowest Ok (at K) count low → low ≡ None → (i : ℕ) → i < count → Ok i
  lowest_none (all f) e = f
  lowest_none (one L) e = absurd (cc)

  pub lowest_row : {low : Option ℕ} {t : ℕ} → Lowest Ok (at K) count low → low ≡ Some t → (r : Option ℕ) → FirstOf K count t r → LowestRow Ok K count r
  lowest_row (all f) e r F = absurd (cc)
  lowest_row {t = t} (one {t = u} L) e r F = by r F
    where
      same : u ≡ t
      same = cc

      by : (r : Option ℕ) → FirstOf K count t r → LowestRow Ok K count r
      by None F = absurd (F L.row L.within (omega (arith, L.has, same)))
      by (Some i) F = record {
        within = F.within;
        fault = rw F.here (rw same at L);
        first = rw F.here F.first;
      }
