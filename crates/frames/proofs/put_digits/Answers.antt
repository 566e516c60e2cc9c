-- `frames::put_digits` meets its contract: after i turns the digits of the first i bytes are put, and each turn puts those of one more.
use native.Mathlib.Omega.{arith}
use Rattle.frames.specs.Put.{digits_start, digits_next}
use Rattle.frames.proofs.put_digits.Goals as goal

pub loop-i-init : goal.loop-i-init
loop-i-init c =
    digits_start _ _ _ _

pub loop-i-preserved : goal.loop-i-preserved
loop-i-preserved c =
    digits_next (omega arith) (omega arith) c.loop-i.invariant c.put_byte.ensures
