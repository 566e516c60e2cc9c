-- `planner::write_plan` meets its contract: after j turns the first j rows stand at the front of the list and the rest is as it was.
use native.Mathlib.Omega.{arith}
use Rattle.planner.specs.Route.{writing_next, writing_end, path_rows}
use Rattle.planner.proofs.write_plan.Goals as goal

pub loop-j-preserved : goal.loop-j-preserved
loop-j-preserved c =
    let a = c.args in
    let l = c.loop-j in
    writing_next (path_rows a.yard.now.dur a.windows.now.place a.label.now a.path.now a.count 0 c.requires.path_fits) c.loop-j-test.true c.step_at-r.ensures l.invariant c.put_at.ensures

pub returns : goal.returns
returns c =
    let a = c.args in
    writing_end (path_rows a.yard.now.dur a.windows.now.place a.label.now a.path.now a.count 0 c.requires.path_fits) (omega arith) c.loop-j.invariant
