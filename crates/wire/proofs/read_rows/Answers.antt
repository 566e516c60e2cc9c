-- `wire::read_rows` meets its contract: after j turns the arrays hold the first j rows of the slice, eleven bytes each; a key not yet read is zero, so packed.
use mathlib.Core.Path.{◌≡◌}
use native.Mathlib.Omega.{arith}
use Rattle.wire.specs.Reading.{all_rows}
use Rattle.wire.proofs.read_rows.Goals as goal

pub returns : goal.returns
returns c =
    let e : c.loop-j.j ≡ c.args.count = omega arith in
    all_rows (rw e at c.loop-j.invariant)
