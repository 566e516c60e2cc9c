-- `frames::fed` meets its contract: each turn takes the bytes to the next line feed and puts the line's answer behind those there are, while there is room.
use Rattle.std.proofs.Common.{◌-◌, length}
use Rattle.frames.specs.Cutting.{Feeding}
use Rattle.frames.proofs.fed.Given as goal

abbrev pub invariant-lines : goal.invariant-lines
invariant-lines l = Feeding l.initial.desk l.buf l.from l.initial.out l.desk l.upto l.len l.out

abbrev pub decreases-lines : goal.decreases-lines
decreases-lines l = length l.buf - l.upto
