-- The first i rows are in their ranges, and `low` is the least ticket of one of them that does not fit; a row that fits is in its ranges.
use Rattle.bookfit.specs.Rows.{unfit_start, unfit_fits, unfit_lower}
use Rattle.laws.specs.Tests.{not_both}
use Rattle.bookfit.proofs.least_unfit.Goals as goal
use Rattle.bookfit.proofs.least_unfit.Goals.{then-not-row_fits+else-not-in_range, else-not-row_fits}

pub loop-i-init : goal.loop-i-init
loop-i-init c =
    unfit_start _ _ _ _ _ _

pub loop-i-preserved : goal.loop-i-preserved
loop-i-preserved c =
    let l = c.loop-i in
    let T = c.ticket_fits.ensures.0 c.if-not-ticket_fits.false in
    let f = c.row_fits in
    elim c.if-not-row_fits.branch [
      | then-not-row_fits+else-not-in_range w ↦
          rw (w.low-is, w.lesser-low.ensures) (unfit_lower _ _ _ _ _ _ l.invariant T (w.in_range.ensures.0 w.if-not-in_range.false) (λ z. not_both (f.ensures.1 z) w.if-not-row_fits.true))
      | else-not-row_fits w ↦ rw w.low-is (unfit_fits _ _ _ _ _ _ l.invariant c.requires.on_map T (f.ensures.0 w.if-not-row_fits.false))
    ]
