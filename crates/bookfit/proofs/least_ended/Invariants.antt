-- Each last row of the first i has marked its ticket's slot, so that one of the same ticket can only be where the slot is marked; there the rows before are
-- looked through. `low` is the least ticket of one that comes second.
use Rattle.laws.specs.Lists.{at}
use Rattle.bookfit.specs.Marks.{Ended}
use Rattle.bookfit.proofs.least_ended.Given as goal

abbrev pub invariant-loop-i : goal.invariant-loop-i
invariant-loop-i l = Ended (at l.rows.key) (at l.rows.tail) l.i l.seen l.low
