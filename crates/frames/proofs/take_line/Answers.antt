-- `frames::take_line` meets its contract: the bytes passed end no line and are on the line, until a line feed ends it or the bytes end.
use mathlib.Core.Path.{◌≡◌, refl}
use native.Mathlib.Omega.{arith}
use lib.ListN.{length}
use Rattle.frames.specs.Cutting.{going_start, going_next, cut_ended, cut_going}
use Rattle.frames.proofs.take_line.Goals as goal

pub loop-i-init : goal.loop-i-init
loop-i-init c =
    going_start _ _ _ c.requires

pub returns-then-buf-i-eq10 : goal.returns-then-buf-i-eq10
returns-then-buf-i-eq10 c =
    cut_ended c.loop-i.invariant (omega arith) c.if-buf-i-eq10.true

pub loop-i-preserved : goal.loop-i-preserved
loop-i-preserved c =
    going_next c.loop-i.invariant (omega arith) c.if-buf-i-eq10.false c.push-line.ensures

pub returns : goal.returns
returns c =
    let e : c.loop-i.i ≡ length c.args.buf.now = omega (arith, c.loop-i.invariant.within) in
    cut_going (rw e at c.loop-i.invariant) refl
