-- None of the rows passed is on a ring: a row on a ring is a candidate, and its next place is left then.
use Prim.Native.Nat.{ℕ, ◌<◌}
use Rattle.bookfit.specs.Ring.{Ringed}
use Rattle.bookfit.proofs.linked.Given as goal

abbrev pub invariant-loop-i : goal.invariant-loop-i
invariant-loop-i l = (j : ℕ) → j < l.i → Ringed l.rows.key l.rows.tail l.count j → ⊥
