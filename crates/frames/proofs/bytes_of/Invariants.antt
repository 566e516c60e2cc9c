-- `frames::bytes_of` meets its contract: after i turns the first i bytes are read, and a turn reads one more or meets a digit that is none.
use Rattle.frames.specs.Lines.{ReadTo}
use Rattle.frames.proofs.bytes_of.Given as goal

abbrev pub invariant-loop-i : goal.invariant-loop-i
invariant-loop-i l = ReadTo l.l.digits l.i l.bytes
