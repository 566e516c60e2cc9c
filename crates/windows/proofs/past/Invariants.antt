-- The number returned is the first row from a on that is not of place p, count where there is none. The loop keeps that the rows passed over are
-- of p; it ends at the first that is not or at the last row.
use Rattle.windows.specs.Runs.{Passing}
use Rattle.windows.proofs.past.Given as goal

abbrev pub invariant-loop-i : goal.invariant-loop-i
invariant-loop-i l = Passing l.key l.count l.a l.p l.i
