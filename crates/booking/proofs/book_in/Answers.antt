-- `booking::book_in` meets its contract: what the survey refuses is refused, and what is sound is booked on.
use Rattle.std.proofs.lemmas.Result.{err_from_is_err_and}
use Rattle.flat.specs.Laws.{blank}
use Rattle.vet.specs.Vetted.{vetted_refused, vetted_sound}
use Rattle.booking.specs.Booking.{book_refused, book_sound_is}
use Rattle.booking.proofs.book_in.Goals as goal

pub survey-requires-clause-no_links : goal.survey-requires-clause-no_links
survey-requires-clause-no_links c = blank (λ x e. e) c.default-ways.ensures.0

pub survey-requires-clause-no_rows : goal.survey-requires-clause-no_rows
survey-requires-clause-no_rows c = blank (λ x e. e) c.default-rows.ensures.1.1.0

pub book_sound-requires : goal.book_sound-requires
book_sound-requires c =
    rw (c.survey.ensures.counts.0, c.survey.ensures.counts.1) ((vetted_sound c.survey.ensures.surveyed c.in_ok-windows.was).2.1)

pub returns-in_err-windows : goal.returns-in_err-windows
returns-in_err-windows c =
    let p = err_from_is_err_and c.from_residual.result c.from_residual.ensures.1 in
    rw (p.1, p.2) (vetted_refused c.survey.ensures.surveyed c.in_err-windows.was book_refused)

pub returns : goal.returns
returns c =
    let S = vetted_sound c.survey.ensures.surveyed c.in_ok-windows.was in
    book_sound_is S.0 S.1 (rw (c.survey.ensures.counts.0, c.survey.ensures.counts.1) S.2.0) c.book_sound.ensures
