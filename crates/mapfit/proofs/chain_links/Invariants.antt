-- `mapfit::chain_links` meets its contract: a link goes to the front of its place's list, whose old front it then points to. After j turns the lists
-- hold the first j links, so after k turns all of them.
use Rattle.mapfit.specs.Walk.{Linking}
use Rattle.mapfit.proofs.chain_links.Given as goal

abbrev pub invariant-loop-j : goal.invariant-loop-j
invariant-loop-j l = Linking l.yard.from l.j l.ways.head l.ways.chain
