-- `planner::step_at` meets its contract: the row of a window on a path is known by the window and the one after it.
use Rattle.std.proofs.Common.{◌∙◌}
use Rattle.planner.specs.Route.{step_goes, step_last}
use Rattle.planner.proofs.step_at.Goals as goal

pub returns-then-k-count : goal.returns-then-k-count
returns-then-k-count c =
    let a = c.args in
    c.new.ensures ∙ step_goes a.yard.now.dur a.windows.now.place a.label.now a.path.now a.count a.k a.ticket c.requires.path_fits c.requires.k_lt_count c.if-k-count.true

pub returns : goal.returns
returns c =
    let a = c.args in
    c.new-2.ensures ∙ step_last a.yard.now.dur a.windows.now.place a.label.now a.path.now a.count a.k a.ticket c.requires.path_fits c.requires.k_lt_count c.if-k-count.false
