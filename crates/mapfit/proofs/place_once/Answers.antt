-- `mapfit::place_once` meets its contract: the places that the links passed go to are those marked p + 1. A place found with that mark has two links
-- from p; where none is found, every link of p goes to a place of its own. The link's number falls with each turn.
use Prim.Native.Nat.{◌-◌}
use native.Mathlib.Omega.{arith}
use Rattle.mapfit.specs.Walk.{chain_within, marking_first, marking_turn}
use Rattle.mapfit.proofs.place_once.Goals as goal

pub loop-l-init : goal.loop-l-init
loop-l-init c =
    marking_first _ _ _ _ _ _ c.requires.chained _ c.requires.p_bound c.requires.mark_len c.requires.by_index

pub loop-l-smaller : goal.loop-l-smaller
loop-l-smaller c =
    let l = c.loop-l in
    omega (arith, chain_within c.requires.chained (l.l - 1) (omega (arith, l.invariant.walk.within)))

pub loop-l-preserved : goal.loop-l-preserved
loop-l-preserved c =
    let l = c.loop-l in
    marking_turn _ _ _ _ _ _ c.requires.chained l.l _ l.invariant (omega arith) _ (omega arith) (omega arith) c.if-mark-q.false
