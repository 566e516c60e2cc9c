-- The first i rows are in their ranges, and `low` is the least ticket of one of them that does not fit; a row that fits is in its ranges.
use Rattle.laws.specs.Lists.{at}
use Rattle.rules.specs.Map.{linked}
use Rattle.flat.specs.Flat.{links_in}
use Rattle.bookfit.specs.Rows.{UnfitTo}
use Rattle.bookfit.proofs.least_unfit.Given as goal

abbrev pub invariant-loop-i : goal.invariant-loop-i
invariant-loop-i l = UnfitTo l.yard.places (at l.yard.dur) (linked (links_in l.yard.from l.yard.to l.yard.links)) (at l.rows.key) (at l.rows.tail) l.next_ticket l.i l.low
