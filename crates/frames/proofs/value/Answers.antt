-- `frames::value` meets its contract: the two ranges of digits give their values, and no other byte is a digit.
use native.Mathlib.Omega.{arith}
use Rattle.unique.specs.Hex.{digit_low, digit_high}
use Rattle.frames.specs.Lines.{no_digit}
use Rattle.frames.proofs.value.Goals as goal

pub returns-in-48-to-57 : goal.returns-in-48-to-57
returns-in-48-to-57 c = grind (arith, digit_low)

pub returns-in-65-to-70 : goal.returns-in-65-to-70
returns-in-65-to-70 c = grind (arith, digit_high)

pub returns-in_default : goal.returns-in_default
returns-in_default c = grind (arith, no_digit)

pub returns-in_default-2 : goal.returns-in_default-2
returns-in_default-2 c = grind (arith, no_digit)

pub returns-in_default-3 : goal.returns-in_default-3
returns-in_default-3 c = grind (arith, no_digit)
