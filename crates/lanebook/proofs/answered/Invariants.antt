-- `lanebook::answered`: the bytes up to the index are taken, each turn on from where the last one stopped.
use Rattle.std.proofs.Common.{◌-◌, length}
use Rattle.lanebook.specs.Turns.{Taking}
use Rattle.lanebook.proofs.answered.Given as goal

abbrev pub invariant-loop-i : goal.invariant-loop-i
invariant-loop-i g l = Taking l.fn.d l.buf l.desk l.i

abbrev pub decreases-loop-i : goal.decreases-loop-i
decreases-loop-i g l = length l.buf - l.i
