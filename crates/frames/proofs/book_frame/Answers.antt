-- `frames::book_frame` meets its contract: the booking's line, and the book that it leaves.
use Rattle.frames.specs.Frames.{book_frame_lem}
use Rattle.frames.proofs.book_frame.Goals as goal

pub returns : goal.returns
returns c =
    book_frame_lem c.args.s.now c.args.b.now c.book_head.result c.book-r.result c.three-second.ensures.0 c.book-r.ensures c.book_head.ensures c.put_answer.ensures
