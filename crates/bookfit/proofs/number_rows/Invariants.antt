-- All stays in range as far as the list goes.
use Rattle.bookfit.specs.Filed.{Pile}
use Rattle.bookfit.proofs.number_rows.Given as goal

abbrev pub invariant-loop-x : goal.invariant-loop-x
invariant-loop-x l = Pile l.rank l.work l.spot
