-- The number returned is where the least of the first c kept exits stands. The loop keeps that j is where the least of the first k stands.
use Rattle.windows.specs.Sweep.{LeastAt}
use Rattle.windows.proofs.least_at.Given as goal

abbrev pub invariant-loop-k : goal.invariant-loop-k
invariant-loop-k l = LeastAt l.top l.k l.j
