-- `mapfit::links_once` meets its contract: the places below p have no two links to the same place, and no mark is above p, so that the walk of p can
-- tell its own marks. With each link from a place below n, the places' links are all links.
use mathlib.Core.Path.{◌≡◌, refl}
use native.Mathlib.Omega.{arith}
use Rattle.mapfit.specs.Walk.{walked_first, walked_next, walked_all}
use Rattle.mapfit.proofs.links_once.Goals as goal

pub loop-p-init : goal.loop-p-init
loop-p-init c = walked_first _ _ _ 256 refl

pub loop-p-preserved : goal.loop-p-preserved
loop-p-preserved c =
    let l = c.loop-p in
    walked_next _ _ _ _ _ _ _ l.invariant c.place_once.ensures c.if-not-place_once.false

pub returns : goal.returns
returns c =
    let e : c.loop-p.p ≡ c.args.yard.now.places = omega arith in
    (λ _. walked_all _ _ _ _ _ (rw e at c.loop-p.invariant) c.requires.by_index, λ _. refl)
