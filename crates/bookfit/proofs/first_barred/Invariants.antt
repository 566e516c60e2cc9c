-- The first `good` rows hold no ring, the first `bad` rows do, and the rows between them grow fewer.
use Prim.Native.Nat.{◌-◌}
use Rattle.rules.specs.Book.{Unbarred}
use Rattle.bookfit.specs.Prefix.{Narrowed}
use Rattle.bookfit.proofs.first_barred.Given as goal

abbrev pub invariant-loop-bad : goal.invariant-loop-bad
invariant-loop-bad l = Narrowed Unbarred l.rows.key l.rows.tail l.count l.good l.bad

abbrev pub decreases-loop-bad : goal.decreases-loop-bad
decreases-loop-bad l = l.bad - l.good
