-- `wire::copy_rows` meets its contract: after j turns the first j rows are written, and each turn puts one more over the next record.
use Rattle.wire.specs.Written.{copied_start, copied_next}
use Rattle.wire.proofs.copy_rows.Goals as goal

pub loop-j-init : goal.loop-j-init
loop-j-init c =
    copied_start _ _ _ _

pub loop-j-preserved : goal.loop-j-preserved
loop-j-preserved c =
    let l = c.loop-j in
    copied_next l.invariant c.row_at.ensures c.put_at.ensures
