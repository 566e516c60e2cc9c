-- None of the rows passed is on a ring: a row on a ring is a candidate, and its next place is left then.
use native.Mathlib.Omega.{arith}
use Rattle.laws.specs.Tests.{not_both}
use Rattle.bookfit.specs.Each.{below_next}
use Rattle.bookfit.specs.Marks.{last_by}
use Rattle.bookfit.specs.Ring.{Ringed, ringed_candidate}
use mathlib.Core.Path.{ap}
use mathlib.Core.Bool.{not}
use Rattle.bookfit.proofs.linked.Goals as goal
use Rattle.bookfit.proofs.linked.Goals.{then-entered_after+then-not-is_last+else-left, then-entered_after+else-not-is_last, else-entered_after}

pub loop-i-preserved : goal.loop-i-preserved
loop-i-preserved c =
    let l = c.loop-i in
    let K = c.args.rows.now.key in
    let X = c.args.rows.now.tail in
    let n = c.args.count in
    let e = rw (c.place_of.ensures, c.exit_of.ensures.0) at c.entered_after.ensures.1 in
    below_next (λ j. Ringed K X n j → ⊥) l.i l.invariant (λ R. elim c.if-entered_after.branch [
      | then-entered_after+then-not-is_last+else-left w ↦ (rw (w.next_of.ensures.0, w.exit_of-then-not-is_last.ensures.0) at (w.left.ensures w.if-left.false)) _ R.barred
      | then-entered_after+else-not-is_last w ↦ R.goes_on (last_by _ _ _ w.is_last.ensures (ap not w.if-not-is_last.false))
      | else-entered_after w ↦ not_both (e (ringed_candidate K X n c.requires (omega arith) l.i R).entered) w.if-entered_after.false
    ])
