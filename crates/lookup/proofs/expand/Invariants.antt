-- `lookup::expand` meets its contract: of the rows passed, those that leave x at t go on to marked places and not to p.
use Rattle.std.proofs.Common.{◌+◌}
use Rattle.lookup.specs.Spread.{Looked}
use Rattle.lookup.proofs.expand.Given as goal

abbrev pub invariant-loop-w : goal.invariant-loop-w
invariant-loop-w l = Looked l.tail l.a l.x l.p l.t l.initial.marks l.initial.list l.len (l.a + l.w-index) l.marks l.list l.l
