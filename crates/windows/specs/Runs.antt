-- The rows of one place are one run of the rows in key order: how its end is found, and that the place's load is the run's.
use Rattle.std.specs.Prelude.{ℕ, zero, suc, ◌+◌, ◌-◌, ◌≤◌, ◌<◌, ◌≡◌, refl, List}
use Rattle.std.proofs.Common.{sym, ap, ◌∙◌, ⊎_elim, arith, eq-eqb, ne_eqb}
use Rattle.laws.specs.Order.{lt_or_ge}
use Rattle.laws.specs.Lists.{at, tabulate}
use Rattle.rules.specs.declared.Row.{Row}
use Rattle.rules.specs.Rows.{covers, bit, load}
use Rattle.flat.specs.Flat.{place_of, entry_of, exit_of, row_of, rows_in}
use Rattle.windows.specs.Sums.{sum, sum_first, sum_same, sum_run}
use Rattle.windows.specs.Sweep.{covered, load_to, entries_from, exits_from, run_load, InOrder}
use Rattle.windows.specs.Places.{Past, Given}

-- ---- the end of a run, looked for from row a on

-- the rows a .. i - 1 are of place p
pub record Passing (K : List ℕ) (count a p i : ℕ) : Type 0 where
  pub from : a ≤ i
  pub to : i ≤ count
  pub same : (k : ℕ) → a ≤ k → k < i → place_of (at K k) ≡ p

-- ---- the run of a place

-- the rows of p are a .. b - 1
pub record Run (K : List ℕ) (count p a b : ℕ) : Type 0 where
  pub up : a ≤ b
  pub within : b ≤ count
  pub inside : (i : ℕ) → a ≤ i → i < b → place_of (at K i) ≡ p
  pub under : (i : ℕ) → i < a → place_of (at K i) < p
  pub beyond : (i : ℕ) → b ≤ i → i < count → p < place_of (at K i)

-- of two rising keys of one place the entries rise
entries_rise : (x y : ℕ) → x < y → place_of x ≡ place_of y → entry_of x ≤ entry_of y
entries_rise x y h e = omega arith

places_rise : (x y : ℕ) → x < y → place_of x ≤ place_of y
places_rise x y h = omega arith

module _ {n count : ℕ} {C D K X : List ℕ} (G : Given n count C D K X) {p a b : ℕ} where
  -- rows before a are of places before p, rows from a on of p or after: what is passed over is p's run
  pub past_run : ((i : ℕ) → i < a → place_of (at K i) < p) → ((i : ℕ) → a ≤ i → i < count → p ≤ place_of (at K i)) → Past K count a p b → Run K count p a b
  past_run u f P = record { up = P.from; within = P.to; inside = P.same; under = u; beyond = beyond }
    where
      beyond : (i : ℕ) → b ≤ i → i < count → p < place_of (at K i)
      beyond i l h =
          let low = f b P.from (omega arith) in
          let other = P.other (omega arith) in
          let high : place_of (at K b) ≤ place_of (at K i) = ⊎_elim (λ (q : b < i). places_rise (at K b) (at K i) (G.rising.rise b i q h)) (λ (q : i ≤ b). let z : b ≡ i = omega arith in omega (arith, ap (λ j. place_of (at K j)) z)) (lt_or_ge b i) in
          ⊎_elim (λ (q : p < place_of (at K b)). omega arith) (λ (q : place_of (at K b) ≤ p). absurd (other (omega arith))) (lt_or_ge p (place_of (at K b)))

  pub run_order : Run K count p a b → InOrder (entries_from K a) (exits_from X a) (b - a)
  run_order R = record {
    sorted = λ i h. entries_rise (at K (a + i)) (at K (a + suc i)) (G.rising.rise (a + i) (a + suc i) (omega arith) (omega (arith, R.within))) (R.inside (a + i) (omega arith) (omega arith) ∙ sym (R.inside (a + suc i) (omega arith) (omega arith)));
    lasts = λ i h. G.lasts (a + i) (omega (arith, R.within));
    in_day = λ i h. G.in_day (a + i) (omega (arith, R.within));
  }

-- ---- loads

-- how many of the first count rows cover second t of place p
unfoldable pub load_at : List ℕ → List ℕ → ℕ → ℕ → ℕ → ℕ
load_at K X count p t = sum (λ i. bit (covers (place_of (at K i)) (entry_of (at K i)) (exit_of (at X i)) p t)) count

load_tabulate : (f : ℕ → Row) (count p t : ℕ) → load (tabulate count f) p t ≡ sum (λ i. bit (covers (f i).place (f i).entry (f i).exit p t)) count
unfolding load tabulate sum
load_tabulate f zero p t = refl
load_tabulate f (suc n) p t = omega (arith, load_tabulate (λ i. f (suc i)) n p t, sum_first (λ i. bit (covers (f i).place (f i).entry (f i).exit p t)) n)

pub load_rows : (K X : List ℕ) (count p t : ℕ) → load (rows_in K X count) p t ≡ load_at K X count p t
unfolding load_at
load_rows K X count p t = load_tabulate (λ i. row_of (at K i) (at X i)) count p t

covers_other : (q e x p t : ℕ) → (q ≡ p → ⊥) → bit (covers q e x p t) ≡ 0
unfolding covers
covers_other q e x p t h = rw (ne_eqb q p h)

covers_here : (q e x p t : ℕ) → q ≡ p → bit (covers q e x p t) ≡ covered e x t
unfolding covers covered
covers_here q e x p t h = rw (eq-eqb q p h)

-- the load of a place is the load of its run
pub load_run : {K : List ℕ} (X : List ℕ) {count p a b : ℕ} → Run K count p a b → (t : ℕ) → load_at K X count p t ≡ run_load K X a b t
unfolding load_at load_to
load_run {K} X {count} {p} {a} {b} R t =
    let f : ℕ → ℕ = λ i. bit (covers (place_of (at K i)) (entry_of (at K i)) (exit_of (at X i)) p t) in
    sum_run f a b count R.up R.within (λ i l. covers_other _ _ _ p t (λ e. omega (arith, R.under i l))) (λ i l m. covers_other _ _ _ p t (λ e. omega (arith, R.beyond i l m)))
    ∙ sum_same (λ i. f (a + i)) (λ i. covered (entries_from K a i) (exits_from X a i) t) (b - a) (λ i l. covers_here _ _ _ p t (R.inside (a + i) (omega arith) (omega arith)))
