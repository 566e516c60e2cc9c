-- `mapfit::links_once` meets its contract: the places below p have no two links to the same place, and no mark is above p, so that the walk of p can
-- tell its own marks. With each link from a place below n, the places' links are all links.
use Rattle.mapfit.specs.Walk.{Walked}
use Rattle.mapfit.proofs.links_once.Given as goal

abbrev pub invariant-loop-p : goal.invariant-loop-p
invariant-loop-p l = Walked l.yard.from l.yard.to l.yard.links l.p l.mark
