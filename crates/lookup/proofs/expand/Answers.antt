-- `lookup::expand` meets its contract: of the rows passed, those that leave x at t go on to marked places and not to p.
use Rattle.std.proofs.Common.{sym, ◌∙◌, ◌≡◌, ◌+◌, arith}
use Rattle.laws.specs.Tests.{not_both}
use Rattle.lookup.specs.Spread.{part_at, looked_skip, looked_put, looked_as}
use Rattle.lookup.proofs.expand.Goals as goal
use Rattle.lookup.proofs.expand.Goals.{then-leaves+else-y-p, else-leaves}

pub loop-w-preserved : goal.loop-w-preserved
loop-w-preserved c =
    let a = c.args in
    let l = c.loop-w in
    let X = a.tail.now in
    let z = part_at X a.a a.b l.w-index (omega arith) in
    let e = rw z at c.leaves.ensures in
    let next : a.a + (l.w-index + 1) ≡ a.a + l.w-index + 1 = omega arith in
    rw next
    (elim c.if-leaves.branch [
      | then-leaves+else-y-p w ↦
          let n = rw z at w.next_of-y.ensures.0 in
          let k = e.0 w.if-leaves.true in
          looked_as X a.a a.x a.p a.t _ _ _ w.marks-is w.list-is w.l-is
          (looked_put X a.a a.x a.p a.t _ _ _ l.invariant (omega arith) k.0 (sym n) (λ z. k.1 (sym n ∙ z)) w.if-y-p.false w.put-l.ensures)
      | else-leaves w ↦
          looked_as X a.a a.x a.p a.t _ _ _ w.marks-is w.list-is w.l-is
          (looked_skip X a.a a.x a.p a.t _ _ _ l.invariant (λ z. not_both (e.1 z) w.if-leaves.false))
    ])
