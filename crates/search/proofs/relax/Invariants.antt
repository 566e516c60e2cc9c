-- `search::relax` meets its contract: the links of p are followed from the last to the first, each offering the windows of the place that it leads to;
-- the other windows have no entry from w. The number of the link falls.
use Rattle.laws.specs.Lists.{at}
use Rattle.flat.specs.Flat.{rows_held}
use Rattle.search.specs.Relax.{AlongLinks}
use Rattle.search.proofs.relax.Given as goal

abbrev pub invariant-loop-cur : goal.invariant-loop-cur
invariant-loop-cur l = AlongLinks (rows_held l.rows) l.yard.places l.yard.links l.windows.count l.yard.dur l.yard.from l.yard.to l.windows.place l.windows.start l.windows.end l.w (at l.windows.place l.w) l.initial.nodes.label l.initial.nodes.live l.initial.nodes.before l.cur l.nodes.label l.nodes.live l.nodes.least l.nodes.before

abbrev pub decreases-loop-cur : goal.decreases-loop-cur
decreases-loop-cur l = l.cur
