-- `frames::take_line` meets its contract: the bytes passed end no line and are on the line, until a line feed ends it or the bytes end.
use Rattle.frames.specs.Cutting.{Going}
use Rattle.frames.proofs.take_line.Given as goal

abbrev pub invariant-loop-i : goal.invariant-loop-i
invariant-loop-i l = Going l.initial.line l.buf l.from l.i l.line
