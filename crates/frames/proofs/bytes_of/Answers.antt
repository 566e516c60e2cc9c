-- `frames::bytes_of` meets its contract: after i turns the first i bytes are read, and a turn reads one more or meets a digit that is none.
use Prim.Native.Nat.{◌/◌}
use mathlib.Core.Path.{◌≡◌, refl}
use native.Mathlib.Omega.{arith}
use borrow.Author.Rules.{rules}
use Rattle.laws.specs.Lists.{zeros}
use Rattle.frames.specs.Lines.{read_start, read_next, read_all, bad_length, bad_high, bad_low}
use Rattle.frames.proofs.bytes_of.Goals.{then-l-eq0-via-then-l-eq0, then-l-eq0-via-else-l-eq0+then-l-gt18, then-l-eq0-via-else-l-eq0+else-l-gt18+then-l-ne0}
use Rattle.frames.proofs.bytes_of.Goals as goal

pub returns-then-l-eq0 : goal.returns-then-l-eq0
returns-then-l-eq0 c =
    bad_length c.args.l (search rules)
    (λ h some even. elim c.then-l-eq0.branch [
      | then-l-eq0-via-then-l-eq0 w ↦ omega (arith, w.if-l-eq0)
      | then-l-eq0-via-else-l-eq0+then-l-gt18 w ↦ omega (arith, w.if-l-gt18)
      | then-l-eq0-via-else-l-eq0+else-l-gt18+then-l-ne0 w ↦ omega (arith, w.if-l-ne0)
    ])

pub loop-i-init : goal.loop-i-init
loop-i-init c =
    read_start c.args.l.digits _ (zeros 9) refl

pub returns-in_err-high : goal.returns-in_err-high
returns-in_err-high c =
    rw c.from_residual.ensures (bad_high c.args.l c.loop-i.i (search rules) (omega arith) (omega arith) c.in_err-high.ensures)

pub returns-in_err-low : goal.returns-in_err-low
returns-in_err-low c =
    rw c.from_residual-in_err-low.ensures (bad_low c.args.l c.loop-i.i (search rules) (omega arith) (omega arith) c.in_err-low.ensures)

pub loop-i-preserved : goal.loop-i-preserved
loop-i-preserved c =
    read_next (search rules) (omega arith) c.loop-i.invariant c.in_ok-high.ensures c.in_ok-low.ensures

pub returns : goal.returns
returns c =
    let e : c.loop-i.i ≡ c.args.l.len / 2 = omega arith in
    read_all (omega arith) (omega arith) (omega arith) (rw e at c.loop-i.invariant)
