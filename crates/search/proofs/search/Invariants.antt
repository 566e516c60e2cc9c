-- `search::search` meets its contract. The invariant is the search's own (`Going`); a turn settles the open window of least entry, of those the first, and
-- offers the way through it to every window; fewer windows are open after each turn. It may stop at the destination, since entries only rise.
use Rattle.flat.specs.Flat.{yard_held, rows_held}
use Rattle.settle.specs.Search.{Going, done_of, opens}
use Rattle.search.specs.Relax.{next_by}
use Rattle.search.specs.Lanes.{is_at_dest}
use Rattle.search.proofs.search.Given as goal

abbrev pub invariant-loop-w : goal.invariant-loop-w
invariant-loop-w l = Going l.windows.count (next_by (yard_held l.yard) (rows_held l.rows) l.windows.place l.windows.start l.windows.end) (is_at_dest l.windows.place l.dest) l.src l.s l.nodes.label l.nodes.live l.nodes.least l.nodes.before

abbrev pub decreases-loop-w : goal.decreases-loop-w
decreases-loop-w l = opens (done_of l.nodes.label l.nodes.live) l.windows.count
