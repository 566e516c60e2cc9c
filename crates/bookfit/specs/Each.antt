-- A fact of each of the first rows: it holds of none at first, and of one more after each turn of a loop.
use Rattle.std.specs.Prelude.{ℕ, ◌+◌, ◌≤◌, ◌<◌}
use Rattle.std.proofs.Common.{subst, ⊎_elim, arith}
use Rattle.laws.specs.Order.{lt_or_ge}

pub below_next : (P : ℕ → Type 0) (c : ℕ) → ((i : ℕ) → i < c → P i) → P c → (i : ℕ) → i < c + 1 → P i
below_next P c f p i h = ⊎_elim (λ (k : i < c). f i k) (λ (k : c ≤ i). subst P (omega arith) p) (lt_or_ge i c)

pub record Each (P : ℕ → Type 0) (c : ℕ) : Type 0 where
  pub each : (i : ℕ) → i < c → P i

module _ (P : ℕ → Type 0) where
  pub each_start : Each P 0
  each_start = record { each = λ i h. absurd (omega arith) }

  pub each_next : (c : ℕ) → Each P c → P c → Each P (c + 1)
  each_next c E p = record { each = below_next P c E.each p }

  pub each_to : (c n : ℕ) → n ≤ c → Each P c → Each P n
  each_to c n h E = record { each = λ i k. E.each i (omega arith) }
