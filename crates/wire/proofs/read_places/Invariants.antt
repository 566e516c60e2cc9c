-- `wire::read_places` meets its contract: after p turns the arrays hold the first p places of the slice, three bytes each.
use Rattle.wire.specs.Reading.{PlacesRead}
use Rattle.wire.proofs.read_places.Given as goal

abbrev pub invariant-loop-p : goal.invariant-loop-p
invariant-loop-p l = PlacesRead l.s l.p l.cap l.dur
