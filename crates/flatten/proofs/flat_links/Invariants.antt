-- `flatten::flat_links` meets its contract: after j turns the arrays hold the map's first j links, so after 1,024 turns all of them.
use Rattle.flatten.specs.Maps.{LinksTo}
use Rattle.flatten.proofs.flat_links.Given as goal

abbrev pub invariant-loop-j : goal.invariant-loop-j
invariant-loop-j l = LinksTo l.fn.m l.from l.to l.j
