-- `search::search` meets its contract. The invariant is the search's own (`Going`); a turn settles the open window of least entry, of those the first, and
-- offers the way through it to every window; fewer windows are open after each turn. It may stop at the destination, since entries only rise.
use Rattle.std.proofs.Common.{arith}
use borrow.Author.Tests.{eq-eqb, ne_eqb}
use Rattle.settle.specs.Search.{going_start, going_none, going_goal, closed_above, going_less, going_turn, in_n, low_u}
use Rattle.search.specs.Lanes.{lanes_ground, lanes_kept, lanes_runs, lanes_steps}
use Rattle.search.proofs.search.Goals as goal

pub loop-w-init : goal.loop-w-init
loop-w-init c =
    let P = c.requires in
    going_start (lanes_steps P.lanes P.src_lt_windows.0 P.src_lt_windows.1) c.args.nodes.now.label c.args.nodes.now.before P.label_len.0 P.label_len.1 P.src_value P.by_index

pub returns : goal.returns
returns c =
    let P = c.requires in
    going_none (lanes_steps P.lanes P.src_lt_windows.0 P.src_lt_windows.1) c.loop-w.invariant (omega arith) c.in_default.ensures

pub returns-then-windows-w : goal.returns-then-windows-w
returns-then-windows-w c =
    let P = c.requires in
    going_goal (lanes_steps P.lanes P.src_lt_windows.0 P.src_lt_windows.1) c.loop-w.invariant (omega arith) c.in-Some.ensures (eq-eqb _ _ c.if-windows-w.true)

pub relax-requires-clause-ground : goal.relax-requires-clause-ground
relax-requires-clause-ground c = lanes_ground c.requires.lanes

pub relax-requires-clause-w_lt_windows : goal.relax-requires-clause-w_lt_windows
relax-requires-clause-w_lt_windows c =
    let P = c.requires in
    let O = lanes_steps P.lanes P.src_lt_windows.0 P.src_lt_windows.1 in
    (in_n O c.loop-w.invariant (omega arith) c.in-Some.ensures, omega (arith, low_u O c.loop-w.invariant (omega arith) c.in-Some.ensures), lanes_kept P.lanes)

pub relax-requires-clause-labels : goal.relax-requires-clause-labels
relax-requires-clause-labels c =
    let g = c.loop-w.invariant in
    let P = c.requires in
    let O = lanes_steps P.lanes P.src_lt_windows.0 P.src_lt_windows.1 in
    record { low = g.below; above = closed_above O g (omega arith) c.in-Some.ensures c.close.ensures.0; len_lab = g.len_lab; len_bef = g.len_bef }

pub loop-w-smaller : goal.loop-w-smaller
loop-w-smaller c =
    let P = c.requires in
    going_less (lanes_steps P.lanes P.src_lt_windows.0 P.src_lt_windows.1) c.loop-w.invariant (omega arith) c.in-Some.ensures c.close.ensures.0 (c.relax.ensures.0.through _ (lanes_runs P.lanes))

pub loop-w-preserved : goal.loop-w-preserved
loop-w-preserved c =
    let P = c.requires in
    going_turn (lanes_steps P.lanes P.src_lt_windows.0 P.src_lt_windows.1) c.loop-w.invariant (omega arith) c.in-Some.ensures c.close.ensures.0 (c.relax.ensures.0.through _ (lanes_runs P.lanes))
    (ne_eqb _ _ c.if-windows-w.false) c.relax.ensures.1.1
