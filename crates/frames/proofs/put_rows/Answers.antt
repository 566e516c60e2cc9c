-- `frames::put_rows` meets its contract: after j turns the lines of the first j records are put, and each turn puts one more.
use native.Mathlib.Omega.{arith}
use Rattle.frames.specs.Put.{rows_next}
use Rattle.frames.proofs.put_rows.Goals as goal

pub loop-j-preserved : goal.loop-j-preserved
loop-j-preserved c =
    rows_next (omega arith) (omega arith) c.loop-j.invariant c.put_line.ensures
