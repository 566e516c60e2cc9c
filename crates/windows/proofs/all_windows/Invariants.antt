-- The windows written are the free windows of all places in order of place and start, and None is returned exactly where a place is overfull. The
-- loop keeps this for the first p places, whose rows are the first a and whose windows the first w: `past` finds the run of rows of place p, and
-- the sweep adds its windows after those. A place has at most one window more than rows, so there are never more than 1,280.
use Rattle.windows.specs.Going.{Going}
use Rattle.windows.proofs.all_windows.Given as goal

abbrev pub invariant-loop-p : goal.invariant-loop-p
invariant-loop-p l = Going l.yard.places l.count l.yard.cap l.yard.dur l.rows.key l.rows.tail l.p l.a l.w l.windows.start l.windows.end l.windows.place l.windows.first
