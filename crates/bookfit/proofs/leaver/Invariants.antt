-- The rows of the chain that leave q at t are all from cur on: a row passed is not one of them. The links fall, and so does cur.
use Prim.Native.Nat.{◌≤◌}
use Rattle.bookfit.specs.Ring.{Leaves}
use Rattle.bookfit.specs.Filed.{Ahead}
use Rattle.bookfit.proofs.leaver.Given as goal

abbrev pub invariant-loop-cur : goal.invariant-loop-cur
invariant-loop-cur l = (l.cur ≤ l.start) × Ahead l.chain (Leaves l.rows.key l.rows.tail l.q l.t) l.start l.cur

abbrev pub decreases-loop-cur : goal.decreases-loop-cur
decreases-loop-cur l = l.cur
