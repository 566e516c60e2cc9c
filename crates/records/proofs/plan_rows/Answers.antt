-- `records::plan_rows` meets its contract: the rows that were found stand over the first records, none where the plan is refused.
use Rattle.std.proofs.Common.{refl}
use Rattle.records.proofs.plan_rows.Goals as goal

pub returns : goal.returns
returns c = rw c.copy_rows.ensures (c.find_plan-f.ensures.says c.args.out.now refl)
