-- The first rows of the arrays are the rows of the arrays with a smaller count. Halving for the first row at which P fails: it holds of the first `lo` rows and not
-- of the first `hi`.
use Rattle.std.specs.Prelude.{ℕ, zero, suc, ◌+◌, ◌-◌, ◌≤◌, ◌<◌, ◌≡◌, refl, Option, Some, MatchOption, List, [], ◌∷◌, take}
use Rattle.std.proofs.Common.{sym, ap, subst, ⊎_elim, arith}
use Rattle.laws.specs.Order.{lt_or_ge}
use Rattle.laws.specs.Lists.{at, tabulate}
use Rattle.rules.specs.declared.Row.{Row}
use Rattle.rules.specs.Rows.{Rising}
use Rattle.rules.specs.Fault.{FirstBad}
use Rattle.rules.specs.FaultLaws.{Inherited}
use Rattle.flat.specs.Flat.{row_of, rows_in, KeysRise}
use Rattle.lookup.specs.Keys.{Keyed}
use Rattle.lookup.specs.Order.{keys_rising, rising_keys}
use Rattle.lookup.specs.Crossings.{Timed}
use Rattle.windows.specs.Places.{Given}
use Rattle.bookfit.specs.Rows.{rise_to, rise_breaks}

take_tabulate : {A : Type 0} (m n : ℕ) (f : ℕ → A) → m ≤ n → take m (tabulate n f) ≡ tabulate m f
unfolding tabulate
take_tabulate zero n f h = refl
take_tabulate (suc m) zero f h = absurd (omega arith)
take_tabulate (suc m) (suc n) f h = ap (λ l. f 0 ∷ l) (take_tabulate m n (λ i. f (suc i)) (omega arith))

rows_take : (K X : List ℕ) (count m : ℕ) → m ≤ count → take m (rows_in K X count) ≡ rows_in K X m
rows_take K X count m h = take_tabulate m count (λ i. row_of (at K i) (at X i)) h

no_rows : (K X : List ℕ) → rows_in K X 0 ≡ []
unfolding tabulate
no_rows K X = refl

-- r is the number of the first row at which P fails
pub record FirstAt (P : List Row → Type 0) (K X : List ℕ) (count r : ℕ) : Type 0 where
  pub some : 0 < r
  pub within : r ≤ count
  pub first : FirstBad P (rows_in K X count) r

-- P holds of the first lo rows and not of the first hi
pub record Narrowed (P : List Row → Type 0) (K X : List ℕ) (count lo hi : ℕ) : Type 0 where
  pub below : lo < hi
  pub within : hi ≤ count
  pub good : P (rows_in K X lo)
  pub bad : P (rows_in K X hi) → ⊥

module _ (P : List Row → Type 0) (K X : List ℕ) (count : ℕ) where
  pub narrowed_start : Inherited P → (P (rows_in K X count) → ⊥) → Narrowed P K X count 0 count
  narrowed_start I f = record { below = some; within = omega arith; good = none; bad = f }
    where
      none : P (rows_in K X 0)
      none = subst P (sym (no_rows K X)) I.none

      some : 0 < count
      some = ⊎_elim (λ (h : 0 < count). h) (λ (h : count ≤ 0). let e : 0 ≡ count = omega arith in absurd (f (subst (λ (n : ℕ). P (rows_in K X n)) e none))) (lt_or_ge 0 count)

  module _ {lo hi : ℕ} (N : Narrowed P K X count lo hi) where
    pub narrowed_up : {mid : ℕ} → mid < hi → P (rows_in K X mid) → Narrowed P K X count mid hi
    narrowed_up h p = record { below = h; within = N.within; good = p; bad = N.bad }

    pub narrowed_down : {mid : ℕ} → lo < mid → mid < hi → (P (rows_in K X mid) → ⊥) → Narrowed P K X count lo mid
    narrowed_down h k f = record { below = h; within = omega (arith, N.within); good = N.good; bad = f }

    pub narrowed_end : hi ≤ lo + 1 → FirstAt P K X count hi
    narrowed_end h =
        let e : lo ≡ hi - 1 = omega (arith, N.below) in
        record {
          some = omega (arith, N.below);
          within = N.within;
          first = record {
            from = omega (arith, N.below);
            good = subst P (sym (rows_take K X count (hi - 1) (omega (arith, N.within)))) (subst (λ (n : ℕ). P (rows_in K X n)) e N.good);
            bad = λ p. N.bad (subst P (rows_take K X count hi N.within) p);
          };
        }

-- ---- rising keys

-- r is the first row whose key is not above the one before it, none where keys rise
abbrev pub FirstFall : List ℕ → ℕ → Option ℕ → Type 0
FirstFall K count r = MatchOption r (KeysRise K count) (λ i. (X : List ℕ) → FirstAt Rising K X count (i + 1))

pub falls_at : (K : List ℕ) (count i : ℕ) → 1 ≤ i → i < count → KeysRise K i → at K i ≤ at K (i - 1) → FirstFall K count (Some i)
falls_at K count i some h R f X = narrowed_end Rising K X count here (omega arith)
  where
    here : Narrowed Rising K X count i (i + 1)
    here = record {
      below = omega arith;
      within = omega arith;
      good = keys_rising K X i R;
      bad = λ q. rise_breaks K i (i + 1) some (omega arith) f (rising_keys K X (i + 1) q);
    }

-- ---- what is asked of the rows of a book holds of the first m of them

pub keyed_to : {K : List ℕ} {n m : ℕ} → m ≤ n → Keyed K n → Keyed K m
keyed_to h A = record { few = omega (arith, A.few); small = λ i k. A.small i (omega arith); rises = rise_to _ _ _ h A.rises }

pub timed_to : {K X : List ℕ} {n m : ℕ} → m ≤ n → Timed K X n → Timed K X m
timed_to h A = record { keyed = keyed_to h A.keyed; lasts = λ i k. A.lasts i (omega arith) }

pub given_to : {n count m : ℕ} {C D K X : List ℕ} → m ≤ count → Given n count C D K X → Given n m C D K X
given_to h G = record {
  places = G.places;
  rows = omega (arith, G.rows);
  cap_from = G.cap_from;
  cap_to = G.cap_to;
  dur_from = G.dur_from;
  dur_to = G.dur_to;
  rising = rise_to _ _ _ h G.rising;
  on_map = λ i k. G.on_map i (omega arith);
  lasts = λ i k. G.lasts i (omega arith);
  in_day = λ i k. G.in_day i (omega arith);
}
