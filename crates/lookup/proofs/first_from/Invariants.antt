-- `lookup::first_from` meets its contract: the loop keeps the stretch base .. base + left in which the key must be; a turn halves it, by a hop that is 0
-- or the upper half's start.
use Rattle.laws.specs.Lists.{at}
use Rattle.lookup.specs.Search.{Among}
use Rattle.lookup.proofs.first_from.Given as goal

abbrev pub invariant-loop-left : goal.invariant-loop-left
invariant-loop-left l = Among (at l.key) l.k l.n l.base l.left

abbrev pub decreases-loop-left : goal.decreases-loop-left
decreases-loop-left l = l.left
