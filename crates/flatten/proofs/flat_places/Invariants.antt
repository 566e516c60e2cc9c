-- `flatten::flat_places` meets its contract: after p turns the arrays hold the map's first p places, so after 256 turns all of them.
use Rattle.flatten.specs.Maps.{PlacesTo}
use Rattle.flatten.proofs.flat_places.Given as goal

abbrev pub invariant-loop-p : goal.invariant-loop-p
invariant-loop-p l = PlacesTo l.fn.m l.cap l.dur l.p
