-- `mapfit::linked_by` meets its contract: the walk goes down the list of p, and no link passed goes to q. A link that goes there is the one looked
-- for; at the list's end every link of p is passed. The link's number falls with each turn.
use Rattle.mapfit.specs.Walk.{Walk, Elsewhere}
use Rattle.mapfit.proofs.linked_by.Given as goal

abbrev pub invariant-loop-l : goal.invariant-loop-l
invariant-loop-l l = Walk l.yard.from l.p l.yard.links l.l (Elsewhere l.yard.to l.q)

abbrev pub decreases-loop-l : goal.decreases-loop-l
decreases-loop-l l = l.l
