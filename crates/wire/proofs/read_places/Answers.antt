-- `wire::read_places` meets its contract: after p turns the arrays hold the first p places of the slice, three bytes each.
use mathlib.Core.Path.{◌≡◌}
use native.Mathlib.Omega.{arith}
use Rattle.wire.specs.Reading.{all_places}
use Rattle.wire.proofs.read_places.Goals as goal

pub returns : goal.returns
returns c =
    let e : c.loop-p.p ≡ c.args.n = omega arith in
    all_places (rw e at c.loop-p.invariant)
