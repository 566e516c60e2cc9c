-- The first row at which a check fails, said in two other ways. It ends the least prefix for which the check fails; and where a check is lost by single
-- rows, each beside the rows before it, it is the first row by which it is lost.
use Rattle.std.specs.Prelude.{ℕ, zero, suc, ◌-◌, ◌≤◌, ◌<◌, ◌≡◌, List, length, take}
use Rattle.std.proofs.Common.{subst, ⊎_elim, arith}
use Rattle.laws.specs.Order.{lt_or_ge}
use Rattle.rules.specs.declared.Row.{Row}
use Rattle.rules.specs.Fault.{FirstBad}
use Rattle.rules.specs.FaultLaws.{Inherited, first_within, prefix_down}
use Rattle.faults.specs.Decide.{stable}

-- ---- the least prefix

pub record LeastBad (P : List Row → Type 0) (rows : List Row) (i : ℕ) : Type 0 where
  pub bad : P (take i rows) → ⊥
  pub least : (j : ℕ) → (P (take j rows) → ⊥) → i ≤ j

module _ {P : List Row → Type 0} (I : Inherited P) (rows : List Row) where
  pub first_least : {i : ℕ} → FirstBad P rows i → LeastBad P rows i
  first_least {i} F = record {
    bad = F.bad;
    least = λ j f. ⊎_elim
        (λ (h : j < i). absurd (f (prefix_down I rows j (i - 1) (omega arith) F.good)))
        (λ (h : i ≤ j). h)
        (lt_or_ge j i);
  }

  pub least_first : ((list : List Row) → Dec (P list)) → {i : ℕ} → LeastBad P rows i → FirstBad P rows i
  least_first dec {i} L = record { from = from; good = stable (dec (take (i - 1) rows)) (λ f. omega (arith, from, L.least (i - 1) f)); bad = L.bad }
    where
      from : 1 ≤ i
      from = ⊎_elim (λ (h : i < 1). absurd (L.bad (prefix_down I rows i 0 (omega arith) I.none))) (λ (h : 1 ≤ i). h) (lt_or_ge i 1)

-- ---- the first row by which it is lost

-- the rows up to and including row i lose the check that those before it keep, exactly where Wrong holds of i
pub record LostBy (P : List Row → Type 0) (rows : List Row) (Wrong : ℕ → Type 0) : Type 0 where
  pub wrong? : (i : ℕ) → Dec (Wrong i)
  pub keeps : (i : ℕ) → 1 ≤ i → i ≤ length rows → (Wrong i → ⊥) → P (take (i - 1) rows) → P (take i rows)
  pub loses : (i : ℕ) → 1 ≤ i → i ≤ length rows → Wrong i → P (take i rows) → ⊥

pub record FirstWrong (Wrong : ℕ → Type 0) (rows : List Row) (i : ℕ) : Type 0 where
  pub from : 1 ≤ i
  pub to : i ≤ length rows
  pub wrong : Wrong i
  pub before : (j : ℕ) → 1 ≤ j → j < i → Wrong j → ⊥

module _ {P : List Row → Type 0} (I : Inherited P) (rows : List Row) {Wrong : ℕ → Type 0} (L : LostBy P rows Wrong) where
  pub first_wrong : {i : ℕ} → FirstBad P rows i → FirstWrong Wrong rows i
  first_wrong {i} F = record {
    from = F.from;
    to = to;
    wrong = stable (L.wrong? i) (λ f. F.bad (L.keeps i F.from to f F.good));
    before = λ j h k w. L.loses j h (omega (arith, to)) w (prefix_down I rows j (i - 1) (omega arith) F.good);
  }
    where
      to : i ≤ length rows
      to = first_within rows F

  pub wrong_first : {i : ℕ} → FirstWrong Wrong rows i → FirstBad P rows i
  wrong_first {i} W = record { from = W.from; good = kept (i - 1) (omega (arith, W.from)); bad = L.loses i W.from W.to W.wrong }
    where
      kept : (n : ℕ) → n < i → P (take n rows)
      kept zero h = I.none
      kept (suc n) h =
          let e : n ≡ suc n - 1 = omega arith in
          L.keeps (suc n) (omega arith) (omega (arith, W.to)) (W.before (suc n) (omega arith) h) (subst (λ (m : ℕ). P (take m rows)) e (kept n (omega arith)))
