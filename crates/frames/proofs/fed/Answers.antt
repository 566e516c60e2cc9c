-- `frames::fed` meets its contract: each turn takes the bytes to the next line feed and puts the line's answer behind those there are, while there is room.
use native.Mathlib.Omega.{arith}
use borrow.Author.Rules.{rules}
use borrow.Author.Tests.{not-true, not-false}
use Rattle.frames.specs.Cutting.{feeding_start, feeding_next, fed_is, step_going, step_answered}
use Rattle.frames.proofs.fed.Goals as goal

pub lines-init : goal.lines-init
lines-init c =
    feeding_start _ _ _ _

pub returns-then-not-cut : goal.returns-then-not-cut
returns-then-not-cut c =
    let l = c.lines in
    let t = c.take_line-cut in
    let e = not-true t.result.ended c.if-not-cut.true in
    fed_is (feeding_next l.invariant c.lines-test.true (omega (arith, l.invariant.fits, l.invariant.put.long)) (step_going _ _ _ _ _ t.ensures e))
    (λ h. absurd (omega (arith, t.ensures.all e)))

pub lines-preserved : goal.lines-preserved
lines-preserved c =
    let l = c.lines in
    let t = c.take_line-cut in
    let k = c.tell-len in
    feeding_next l.invariant c.lines-test.true (omega (arith, l.invariant.fits, l.invariant.put.long))
    (step_answered _ _ _ _ _ k.new.out t.ensures (not-false t.result.ended c.if-not-cut.false) (omega (arith, l.invariant.fits, l.invariant.put.long)) k.ensures c.no_digits-desk.ensures (search rules))
