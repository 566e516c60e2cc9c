-- Each row filed that follows row i and is not numbered below it is from `from` on along the chain: a row passed is numbered below, and the look for the next
-- passes none that follows.
use Prim.Native.Nat.{◌≤◌}
use Rattle.laws.specs.Lists.{at}
use Rattle.flat.specs.Flat.{exit_of, next_value}
use Rattle.bookfit.specs.Filed.{leave_slot_value, Ahead, NotBelow}
use Rattle.bookfit.proofs.above_all.Given as goal

abbrev pub invariant-loop-j : goal.invariant-loop-j
invariant-loop-j l = (l.from ≤ 1024) × Ahead l.chain (NotBelow l.rows.key l.rows.tail l.rank l.i) (at l.head (leave_slot_value (next_value (at l.rows.tail l.i)) (exit_of (at l.rows.tail l.i)))) l.from

abbrev pub decreases-loop-j : goal.decreases-loop-j
decreases-loop-j l = l.from
