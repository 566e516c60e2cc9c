-- `frames::plan_head` meets its contract: the array's bytes are 00, the arrival's three and the count's two, or a refusal's number.
use Rattle.frames.proofs.plan_head.Goals as goal

pub returns-in-Err : goal.returns-in-Err
returns-in-Err c =
    rw c.in-Err.is (c.refused_head.ensures _)
