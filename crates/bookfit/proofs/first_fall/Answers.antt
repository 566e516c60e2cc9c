-- The first i keys rise, and the next is compared with the last of them: where it is not above that, its row is the first at which keys do not rise.
use native.Mathlib.Omega.{arith}
use Rattle.bookfit.specs.Rows.{rise_next}
use Rattle.bookfit.specs.Prefix.{falls_at}
use Rattle.bookfit.proofs.first_fall.Goals as goal

pub returns-then-key-i : goal.returns-then-key-i
returns-then-key-i c =
    let l = c.loop-i in
    falls_at c.args.key.now c.args.count l.i (omega arith) (omega arith) l.invariant c.if-key-i.true

pub loop-i-preserved : goal.loop-i-preserved
loop-i-preserved c =
    rise_next _ _ (omega arith) c.loop-i.invariant c.if-key-i.false
