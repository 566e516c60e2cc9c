-- The first `good` rows overfill no place, the first `bad` rows do, and the rows between them grow fewer.
use Prim.Native.Nat.{◌-◌}
use Rattle.bookfit.specs.Prefix.{Narrowed}
use Rattle.bookfit.specs.Formed.{Capped}
use Rattle.bookfit.specs.Answer.{Lent}
use Rattle.bookfit.proofs.first_overfull.Given as goal

abbrev pub invariant-loop-bad : goal.invariant-loop-bad
invariant-loop-bad l = Narrowed (Capped l.yard.places l.yard.cap) l.rows.key l.rows.tail l.count l.good l.bad × Lent l.windows.start l.windows.end l.windows.place l.windows.first

abbrev pub decreases-loop-bad : goal.decreases-loop-bad
decreases-loop-bad l = l.bad - l.good
