-- `frames::put_answer` meets its contract: the first line over the front of the list, and the row lines behind it.
use native.Mathlib.Omega.{arith}
use Rattle.frames.specs.Told.{answer_lines}
use Rattle.frames.proofs.put_answer.Goals as goal

pub returns : goal.returns
returns c =
    answer_lines c.args.h.bytes c.args.list.now c.args.h.count c.args.rows (omega arith) (omega arith) (omega arith) c.put_line.ensures c.put_rows.ensures
