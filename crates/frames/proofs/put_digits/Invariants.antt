-- `frames::put_digits` meets its contract: after i turns the digits of the first i bytes are put, and each turn puts those of one more.
use Rattle.frames.specs.Put.{Digits}
use Rattle.frames.proofs.put_digits.Given as goal

abbrev pub invariant-loop-i : goal.invariant-loop-i
invariant-loop-i l = Digits l.list l.from l.i l.at l.initial.out l.out
