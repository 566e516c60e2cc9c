-- Each last row of the first i has marked its ticket's slot, so that one of the same ticket can only be where the slot is marked; there the rows before are
-- looked through. `low` is the least ticket of one that comes second.
use mathlib.Core.Path.{refl, sym, ◌∙◌}
use native.Mathlib.Omega.{arith}
use borrow.Author.Tests.{eq-eqb, eqb-true}
use Rattle.laws.specs.Tests.{not_both}
use Rattle.laws.specs.Lists.{at}
use Prim.Native.Nat.{◌%◌}
use Rattle.bookfit.specs.Marks.{ended_start, ended_not, ended_again, ended_first}
use Rattle.bookfit.proofs.least_ended.Goals as goal
use Rattle.bookfit.proofs.least_ended.Goals.{then-is_last, then-seen-h+then-last_among, else-seen-h, else-seen-h-via-then-seen-h+else-last_among, else-seen-h-via-else-seen-h, else-is_last}

pub loop-i-init : goal.loop-i-init
loop-i-init c =
    ended_start _ _ _ refl

pub loop-i-preserved : goal.loop-i-preserved
loop-i-preserved c =
    let l = c.loop-i in
    let K = at c.args.rows.now.key in
    let X = at c.args.rows.now.tail in
    let q = c.is_last.ensures in
    elim c.if-is_last.branch [
      | then-is_last w ↦ rw (w.seen-is, w.low-is) (elim w.if-seen-h.branch [
        | then-seen-h+then-last_among v ↦
            rw (v.low-is, v.lesser-low.ensures) (ended_again K X l.i l.invariant (eqb-true _ _ (sym q ∙ w.if-is_last.true)) (K l.i % 4096) refl (omega arith) (v.last_among.ensures.0 v.if-last_among.true))
        | else-seen-h v ↦
            rw v.low-is (ended_first K X l.i l.invariant (eqb-true _ _ (sym q ∙ w.if-is_last.true)) (K l.i % 4096) refl (omega arith) (λ t b. elim v.else-seen-h.branch [
              | else-seen-h-via-then-seen-h+else-last_among u ↦ not_both (u.last_among.ensures.1 b) u.if-last_among.false
              | else-seen-h-via-else-seen-h u ↦ not_both t u.if-seen-h.false
            ]))
      ])
      | else-is_last w ↦ rw (w.seen-is, w.low-is) (ended_not K X l.i l.invariant (λ e. not_both (q ∙ eq-eqb _ _ e) w.if-is_last.false))
    ]
