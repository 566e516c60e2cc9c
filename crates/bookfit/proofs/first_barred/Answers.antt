-- The first `good` rows hold no ring, the first `bad` rows do, and the rows between them grow fewer.
use native.Mathlib.Omega.{arith}
use Rattle.rules.specs.FaultLaws.{unbarred_inherited}
use Rattle.bookfit.specs.Prefix.{narrowed_start, narrowed_end}
use Rattle.bookfit.proofs.first_barred.Goals as goal

pub loop-bad-init : goal.loop-bad-init
loop-bad-init c =
    narrowed_start _ _ _ _ unbarred_inherited c.requires.fact

pub returns : goal.returns
returns c =
    narrowed_end _ _ _ _ c.loop-bad.invariant (omega arith)
