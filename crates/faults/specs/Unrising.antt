-- 13, keys not rising: they first fail to rise at the first row whose key is not above that of the row before it. Where each key is above the one before it,
-- it is above all before it, as the keys' order is transitive.
use Rattle.std.specs.Prelude.{ℕ, suc, ◌-◌, ◌≤◌, ◌<◌, List, length, take}
use Rattle.std.proofs.Common.{subst, ⊎_elim, arith, get_or-take, length-take-le}
use Rattle.std.proofs.Math.Decide.{dec_le}
use Rattle.laws.specs.Order.{lt_or_ge}
use Rattle.rules.specs.declared.Row.{Row}
use Rattle.rules.specs.Rows.{no_row, row_key, row_at, Less, Rising}
use Rattle.rules.specs.Fault.{FirstBad}
use Rattle.rules.specs.FaultLaws.{rising_inherited}
use Rattle.keeping.specs.OrderLaws.{less_trans}
use Rattle.faults.specs.Decide.{both?, not?, stable}
use Rattle.faults.specs.Checks.{less?}
use Rattle.faults.specs.First.{LostBy, first_wrong, wrong_first}

-- row i is the first whose key is not above that of the row before it
pub record FirstDrop (rows : List Row) (i : ℕ) : Type 0 where
  pub from : 2 ≤ i
  pub to : i ≤ length rows
  pub drops : Less (row_key (row_at rows (i - 2))) (row_key (row_at rows (i - 1))) → ⊥
  pub before : (j : ℕ) → 2 ≤ j → j < i → Less (row_key (row_at rows (j - 2))) (row_key (row_at rows (j - 1)))

module _ (rows : List Row) where
  abbrev Drops : ℕ → Type 0
  Drops i = (2 ≤ i) × (Less (row_key (row_at rows (i - 2))) (row_key (row_at rows (i - 1))) → ⊥)

  -- the first n rows rise, said of the whole list's rows
  abbrev RiseTo : ℕ → Type 0
  RiseTo n = (a b : ℕ) → a < b → b < n → Less (row_key (row_at rows a)) (row_key (row_at rows b))

  module _ (n : ℕ) (h : n ≤ length rows) where
    rise_to : Rising (take n rows) → RiseTo n
    rise_to R a b k l =
        let e = length-take-le n rows h in
        let ha : a < n = omega arith in
        rw (← get_or-take n rows a no_row ha, ← get_or-take n rows b no_row l) (R.rise a b k (omega arith))

    to_rising : RiseTo n → Rising (take n rows)
    to_rising f = record {
      rise = λ a b k l.
          let e = length-take-le n rows h in
          let ha : a < n = omega arith in
          let hb : b < n = omega arith in
          rw (get_or-take n rows a no_row ha, get_or-take n rows b no_row hb) (f a b k hb);
    }

  lost_by_drop : LostBy Rising rows Drops
  lost_by_drop = record {
    wrong? = λ i. both? (dec_le 2 i) (not? (less? (row_key (row_at rows (i - 2))) (row_key (row_at rows (i - 1)))));
    keeps = λ i h k f R. to_rising i k (on i h k f (rise_to (i - 1) (omega arith) R));
    loses = λ i h k w R. w.1 (rise_to i k R (i - 2) (i - 1) (omega (arith, w.0)) (omega arith));
  }
    where
      Up : ℕ → ℕ → Type 0
      Up a b = Less (row_key (row_at rows a)) (row_key (row_at rows b))

      -- the last step, and what lies below it
      last : (i : ℕ) → Up (i - 2) (i - 1) → RiseTo (i - 1) → (a : ℕ) → suc a < i → Up a (i - 1)
      last i l R a h = ⊎_elim
          (λ (k : a < i - 2). less_trans (R a (i - 2) k (omega arith)) l)
          (λ (k : i - 2 ≤ a). subst (λ (x : ℕ). Up x (i - 1)) (omega arith) l)
          (lt_or_ge a (i - 2))

      on : (i : ℕ) → 1 ≤ i → i ≤ length rows → (Drops i → ⊥) → RiseTo (i - 1) → RiseTo i
      on i h k f R a b l m = ⊎_elim
          (λ (q : b < i - 1). R a b l q)
          (λ (q : i - 1 ≤ b). subst (Up a) (omega arith)
          (last i (stable (less? (row_key (row_at rows (i - 2))) (row_key (row_at rows (i - 1)))) (λ g. f (omega arith, g))) R a (omega arith)))
          (lt_or_ge b (i - 1))

  pub first_drop : {i : ℕ} → FirstBad Rising rows i → FirstDrop rows i
  first_drop {i} F = let w = first_wrong rising_inherited rows lost_by_drop F in record {
    from = w.wrong.0;
    to = w.to;
    drops = w.wrong.1;
    before = λ j h k. stable (less? (row_key (row_at rows (j - 2))) (row_key (row_at rows (j - 1)))) (λ g. w.before j (omega arith) k (h, g));
  }

  pub drop_first : {i : ℕ} → FirstDrop rows i → FirstBad Rising rows i
  drop_first {i} D = wrong_first rising_inherited rows lost_by_drop
      (record { from = omega (arith, D.from); to = D.to; wrong = (D.from, D.drops); before = λ j h k w. w.1 (D.before j w.0 k) })
