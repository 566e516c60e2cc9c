-- `wire::read_links` meets its contract: after j turns the arrays hold the first j links of the slice, two bytes each.
use mathlib.Core.Path.{◌≡◌}
use native.Mathlib.Omega.{arith}
use Rattle.wire.specs.Reading.{all_links}
use Rattle.wire.proofs.read_links.Goals as goal

pub returns : goal.returns
returns c =
    let e : c.loop-j.j ≡ c.args.k = omega arith in
    all_links (rw e at c.loop-j.invariant)
