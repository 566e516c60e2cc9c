-- The successors of the first i rows are marked, and `low` is the least ticket of one of them that has none, or one that was marked before.
use Rattle.laws.specs.Lists.{at}
use Rattle.bookfit.specs.Marks.{Takes}
use Rattle.bookfit.proofs.least_astray.Given as goal

abbrev pub invariant-loop-i : goal.invariant-loop-i
invariant-loop-i l = Takes (at l.rows.key) (at l.rows.tail) l.count l.i l.taken l.low
