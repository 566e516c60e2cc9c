-- `frames::plan_frame` meets its contract: the plan's first line and its rows from the list that planning wrote.
use Rattle.frames.specs.Frames.{plan_frame_lem}
use Rattle.frames.proofs.plan_frame.Goals as goal

pub returns : goal.returns
returns c =
    plan_frame_lem c.args.s.now c.args.b.now c.plan_head.result c.plan-p.result c.plan-p.new.out c.rows_of.result c.three-second.ensures.0
    c.plan-p.ensures c.plan-p.auto.out c.rows_of.ensures c.plan_head.ensures c.put_answer.ensures
