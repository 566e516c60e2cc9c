-- `mapfit::linked_by` meets its contract: the walk goes down the list of p, and no link passed goes to q. A link that goes there is the one looked
-- for; at the list's end every link of p is passed. The link's number falls with each turn.
use Prim.Native.Nat.{◌-◌}
use mathlib.Core.Path.{◌≡◌}
use native.Mathlib.Omega.{arith}
use Rattle.mapfit.specs.Walk.{chain_within, walk_first, walk_turn, linked_found, linked_nowhere}
use Rattle.mapfit.proofs.linked_by.Goals as goal

pub loop-l-init : goal.loop-l-init
loop-l-init c =
    walk_first _ _ _ _ _ c.requires.chained _ c.requires.p_bound

pub returns-then-yard-l : goal.returns-then-yard-l
returns-then-yard-l c =
    let l = c.loop-l in
    linked_found c.args.yard.now.from c.args.yard.now.to _ _ _ (l.l - 1) (omega (arith, l.invariant.within)) (l.invariant.leaves (l.l - 1) (omega arith)) c.if-yard-l.true

pub loop-l-smaller : goal.loop-l-smaller
loop-l-smaller c =
    let l = c.loop-l in
    omega (arith, chain_within c.requires.chained (l.l - 1) (omega (arith, l.invariant.within)))

pub loop-l-preserved : goal.loop-l-preserved
loop-l-preserved c =
    let l = c.loop-l in
    walk_turn _ _ _ _ _ c.requires.chained _ l.l l.invariant (omega arith) c.if-yard-l.false

pub returns : goal.returns
returns c =
    let l = c.loop-l in
    let e : l.l ≡ 0 = omega arith in
    linked_nowhere c.args.yard.now.from c.args.yard.now.to _ _ _ (rw e at l.invariant)
