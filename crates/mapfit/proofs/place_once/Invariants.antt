-- `mapfit::place_once` meets its contract: the places that the links passed go to are those marked p + 1. A place found with that mark has two links
-- from p; where none is found, every link of p goes to a place of its own. The link's number falls with each turn.
use Rattle.mapfit.specs.Walk.{Marking}
use Rattle.mapfit.proofs.place_once.Given as goal

abbrev pub invariant-loop-l : goal.invariant-loop-l
invariant-loop-l l = Marking l.yard.from l.yard.to l.p l.yard.links l.l l.mark

abbrev pub decreases-loop-l : goal.decreases-loop-l
decreases-loop-l l = l.l
