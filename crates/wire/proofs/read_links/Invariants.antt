-- `wire::read_links` meets its contract: after j turns the arrays hold the first j links of the slice, two bytes each.
use Rattle.wire.specs.Reading.{LinksRead}
use Rattle.wire.proofs.read_links.Given as goal

abbrev pub invariant-loop-j : goal.invariant-loop-j
invariant-loop-j l = LinksRead l.s l.base l.j l.from l.to
