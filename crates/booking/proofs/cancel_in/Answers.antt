-- `booking::cancel_in` meets its contract: what the survey refuses is refused, and what is sound is cancelled in.
use Rattle.std.proofs.lemmas.Result.{err_from_is_err_and}
use Rattle.flat.specs.Laws.{blank}
use Rattle.vet.specs.Vetted.{vetted_refused}
use Rattle.booking.specs.Cancelling.{cancel_refused}
use Rattle.booking.proofs.cancel_in.Goals as goal

pub survey-requires-clause-no_links : goal.survey-requires-clause-no_links
survey-requires-clause-no_links c = blank (λ x e. e) c.default-ways.ensures.0

pub survey-requires-clause-no_rows : goal.survey-requires-clause-no_rows
survey-requires-clause-no_rows c = blank (λ x e. e) c.default-rows.ensures.1.1.0

pub returns-in_err-survey : goal.returns-in_err-survey
returns-in_err-survey c =
    let p = err_from_is_err_and c.from_residual.result c.from_residual.ensures.1 in
    rw (p.1, p.2) (vetted_refused c.survey.ensures.surveyed c.in_err-survey.was cancel_refused)
