-- The first `good` rows overfill no place, the first `bad` rows do, and the rows between them grow fewer.
use native.Mathlib.Omega.{arith}
use Rattle.bookfit.specs.Prefix.{narrowed_start, narrowed_end, given_to}
use Rattle.bookfit.specs.Formed.{Capped, capped_inherited}
use Rattle.bookfit.proofs.first_overfull.Goals as goal

pub loop-bad-init : goal.loop-bad-init
loop-bad-init c =
    let a = c.args in
    (narrowed_start (Capped a.yard.now.places a.yard.now.cap) a.rows.now.key a.rows.now.tail _ (capped_inherited a.yard.now.places a.yard.now.cap) c.requires.fact, c.requires.lent)

pub all_windows-requires-clause-given : goal.all_windows-requires-clause-given
all_windows-requires-clause-given c =
    let N = c.loop-bad.invariant.0 in
    given_to (omega (arith, N.within, N.below)) c.requires.given

pub returns : goal.returns
returns c =
    let a = c.args in
    narrowed_end (Capped a.yard.now.places a.yard.now.cap) a.rows.now.key a.rows.now.tail _ c.loop-bad.invariant.0 (omega arith)
