-- `planner::write_plan` meets its contract: after j turns the first j rows stand at the front of the list and the rest is as it was.
use lib.ListN.{take}
use Rattle.rules.specs.Plan.{run_rows}
use Rattle.planner.specs.Choice.{plan_of}
use Rattle.planner.specs.Route.{Writing}
use Rattle.planner.proofs.write_plan.Given as goal

abbrev pub invariant-loop-j : goal.invariant-loop-j
invariant-loop-j l = Writing (run_rows 0 (plan_of l.yard.dur l.windows.place l.label (take l.count l.path))) l.initial.out l.count l.j l.out
