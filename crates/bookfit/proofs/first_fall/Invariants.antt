-- The first i keys rise, and the next is compared with the last of them: where it is not above that, its row is the first at which keys do not rise.
use Rattle.flat.specs.Flat.{KeysRise}
use Rattle.bookfit.proofs.first_fall.Given as goal

abbrev pub invariant-loop-i : goal.invariant-loop-i
invariant-loop-i l = KeysRise l.key l.i
