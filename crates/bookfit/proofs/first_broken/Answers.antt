-- The least of three: of the rows that do not fit, do not join or end a run that has ended.
use Rattle.bookfit.specs.Least.{lowest_both, lowest_none, lowest_row}
use Rattle.bookfit.proofs.first_broken.Goals as goal

pub returns-in_err-t : goal.returns-in_err-t
returns-in_err-t c =
    let e = c.in_err-t.was in
    λ n k D F T L. rw c.from_residual.ensures (lowest_none c.args.rows.now.key (lowest_both L (lowest_both c.least_unjoined-astray.ensures c.least_ended-ended.ensures)) (cc (e, c.lesser.ensures, c.lesser-2.ensures)))

pub returns : goal.returns
returns c =
    let e = c.in_ok-t.was in
    λ n k D F T L. lowest_row c.args.rows.now.key (lowest_both L (lowest_both c.least_unjoined-astray.ensures c.least_ended-ended.ensures)) (cc (e, c.lesser.ensures, c.lesser-2.ensures)) _ c.first_of.ensures
