-- `records_show::plan_into`: what the table of cases says of the plan.
use Rattle.records_show.specs.Shown.{plan_shown}
use Rattle.records_show.proofs.plan_into.Goals as goal

pub returns : goal.returns
returns c = plan_shown _ _ _ c.barn.ensures c.booked.ensures c.marked.ensures c.requires c.lend_plan.ensures
