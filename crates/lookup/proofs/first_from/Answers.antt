-- `lookup::first_from` meets its contract: the loop keeps the stretch base .. base + left in which the key must be; a turn halves it, by a hop that is 0
-- or the upper half's start.
use Rattle.laws.specs.Lists.{at}
use Rattle.lookup.specs.Search.{among_hop}
use Rattle.lookup.specs.Keys.{weakly}
use Rattle.lookup.proofs.first_from.Goals as goal

pub loop-left-preserved : goal.loop-left-preserved
loop-left-preserved c =
    let l = c.loop-left in
    let b = c.below in
    among_hop (at c.args.key.now) c.args.k c.args.n l.base l.left (weakly c.requires.keyed.rises) l.invariant c.loop-left-test.true b.result b.ensures.1 b.ensures.2
