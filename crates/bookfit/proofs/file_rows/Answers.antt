-- A row goes to the front of its slot's chain, whose old front it then points to: after each turn the listed rows met so far are on the chains of their slots.
use Rattle.bookfit.specs.Ring.{taken_at}
use Rattle.bookfit.specs.Filed.{filed_next}
use Rattle.bookfit.proofs.file_rows.Goals as goal

pub loop-x-preserved : goal.loop-x-preserved
loop-x-preserved c =
    let l = c.loop-x in
    let h = c.leave_slot-h.ensures in
    let slot = rw (c.place_of.ensures, c.exit_of.ensures.0) at h.0 in
    let t = taken_at c.args.list.now c.args.m l.x-index c.loop-x-test.true in
    filed_next c.args.rows.now.key c.args.rows.now.tail c.requires.listed l.x-index l.head l.chain c.requires.keyed.few l.invariant t.0 _ _ t.1 slot h.1
