-- All stays in range: nothing else is claimed.
use Prim.Native.Nat.{◌<◌}
use Rattle.bookfit.specs.Filed.{Pile}
use Rattle.bookfit.proofs.number_from.Given as goal

abbrev pub invariant-loop : goal.invariant-loop
invariant-loop l = (l.top < 1024) × Pile l.rank l.work l.spot
