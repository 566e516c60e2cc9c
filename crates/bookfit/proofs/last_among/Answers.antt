-- The rows are asked one after the other, each by its key and its tail.
use native.Mathlib.Omega.{arith}
use Rattle.std.proofs.lemmas.Grind.{common_steps}
use Rattle.bookfit.proofs.last_among.Goals as goal

pub returns : goal.returns
returns c =
    grind (arith, common_steps)
