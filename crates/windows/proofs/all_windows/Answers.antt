-- The windows written are the free windows of all places in order of place and start, and None is returned exactly where a place is overfull. The
-- loop keeps this for the first p places, whose rows are the first a and whose windows the first w: `past` finds the run of rows of place p, and
-- the sweep adds its windows after those. A place has at most one window more than rows, so there are never more than 1,280.
use Rattle.std.proofs.Common.{rules, ◌≡◌, None}
use Rattle.windows.specs.Going.{going_over, going_next, going_done}
use Rattle.windows.proofs.all_windows.Goals as goal

pub returns-in_err-w : goal.returns-in_err-w
returns-in_err-w c =
    let n : c.from_residual.result ≡ None = search rules in
    rw n (going_over c.requires.given c.loop-p.invariant c.loop-p-test.true c.past-b.ensures c.sweep.ensures c.in_err-w.was)

pub loop-p-preserved : goal.loop-p-preserved
loop-p-preserved c =
    going_next c.requires.given c.loop-p.invariant c.loop-p-test.true c.past-b.ensures c.sweep.ensures _ c.in_ok-w.was

pub returns : goal.returns
returns c =
    going_done c.requires.given c.loop-p-test.false c.loop-p.invariant
