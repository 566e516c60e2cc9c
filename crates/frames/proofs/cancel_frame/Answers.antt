-- `frames::cancel_frame` meets its contract: the cancellation's line, and the book that it leaves.
use Rattle.frames.specs.Frames.{cancel_frame_lem}
use Rattle.frames.proofs.cancel_frame.Goals as goal

pub returns : goal.returns
returns c =
    cancel_frame_lem c.args.s.now c.args.b.now c.cancel_head.result c.cancel-r.result c.three.ensures.0 c.cancel-r.ensures c.cancel_head.ensures c.put_answer.ensures
