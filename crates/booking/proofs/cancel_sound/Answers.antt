-- `booking::cancel_sound` meets its contract: the number of rows that the ticket has decides 9.
use native.Mathlib.Omega.{arith}
use Rattle.booking.specs.Cancelling.{cancel_unknown, cancel_done}
use Rattle.booking.proofs.cancel_sound.Goals as goal

pub returns-then-r-eq0 : goal.returns-then-r-eq0
returns-then-r-eq0 c =
    cancel_unknown (omega (arith, c.remove_ticket-r.ensures.1, c.if-r-eq0.true))

pub returns : goal.returns
returns c =
    let r = c.remove_ticket-r.ensures in
    cancel_done (omega (arith, r.1, c.if-r-eq0.false)) r.1 r.0
