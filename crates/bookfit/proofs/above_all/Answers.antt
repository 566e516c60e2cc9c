-- Each row filed that follows row i and is not numbered below it is from `from` on along the chain: a row passed is numbered below, and the look for the next
-- passes none that follows.
use native.Mathlib.Omega.{arith}
use Rattle.bookfit.specs.Ring.{Follows}
use Rattle.bookfit.specs.Filed.{ahead_after, NotBelow}
use Rattle.bookfit.proofs.above_all.Goals as goal

pub loop-j-preserved : goal.loop-j-preserved
loop-j-preserved c =
    let l = c.loop-j in
    let a = c.args in
    let j = c.in-Some.j in
    let e = rw (c.next_of-q.ensures.0, c.exit_of-t.ensures.0) at c.in-Some.ensures.1 in (
      omega (arith, c.requires.chains.links j, c.in-Some.ensures.0),
      ahead_after a.chain.now (Follows a.rows.now.key a.rows.now.tail a.i) (NotBelow a.rows.now.key a.rows.now.tail a.rank.now a.i) _ l.from j l.invariant.1 (λ k z. z.follows) e
          (λ z. omega (arith, z.not_below, c.if-rank-j.false)),
    )
