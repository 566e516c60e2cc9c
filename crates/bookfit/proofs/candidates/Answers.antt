-- The candidates among the first i rows are listed, in their order; the rows looked at are rows of the book.
use native.Mathlib.Omega.{arith}
use Rattle.laws.specs.Tests.{not_both}
use Rattle.bookfit.specs.Marks.{goes_by, last_by}
use Rattle.bookfit.specs.Ring.{Candidate, listed_skip, listed_put}
use mathlib.Core.Path.{ap}
use mathlib.Core.Bool.{not}
use Rattle.bookfit.proofs.candidates.Goals as goal
use Rattle.bookfit.proofs.candidates.Goals.{then-entered_after+then-not-is_last, then-entered_after+else-not-is_last, else-entered_after}

pub loop-i-preserved : goal.loop-i-preserved
loop-i-preserved c =
    let l = c.loop-i in
    let K = c.args.rows.now.key in
    let X = c.args.rows.now.tail in
    let P = Candidate K X c.args.count in
    let e = rw (c.place_of.ensures, c.exit_of.ensures.0) at c.entered_after.ensures.1 in
    elim c.if-entered_after.branch [
      | then-entered_after+then-not-is_last w ↦
          rw (w.list-is, w.m-is) (listed_put P K X l.i l.list l.m l.invariant (omega (arith, c.requires.by_place.timed.keyed.few, c.requires.upto_le_count, c.loop-i-test.true)) (goes_by _ _ _ w.is_last.ensures (ap not w.if-not-is_last.true)))
      | then-entered_after+else-not-is_last w ↦
          rw (w.list-is, w.m-is) (listed_skip P K X l.i l.list l.m l.invariant (λ C. C.goes_on (last_by _ _ _ w.is_last.ensures (ap not w.if-not-is_last.false))))
      | else-entered_after w ↦ rw (w.list-is, w.m-is) (listed_skip P K X l.i l.list l.m l.invariant (λ C. not_both (e C.entered) w.if-entered_after.false))
    ]
