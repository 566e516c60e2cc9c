-- The successors of the first i rows are marked, and `low` is the least ticket of one of them that has none, or one that was marked before.
use mathlib.Core.Path.{refl}
use native.Mathlib.Omega.{arith}
use lib.ListN.{get_or-replicate}
use mathlib.Core.Bool.{false}
use Rattle.laws.specs.Lists.{at}
use Rattle.bookfit.specs.Marks.{takes_start, takes_last, takes_none, takes_taken, takes_free, goes_by, last_by, spot_as}
use mathlib.Core.Path.{ap}
use mathlib.Core.Bool.{not}
use Rattle.bookfit.proofs.least_astray.Goals as goal
use Rattle.bookfit.proofs.least_astray.Goals.{then-not-is_last+in-Some, then-not-is_last+in_default, in_default-via-in-Some+else-not-taken-j, in_default-via-in_default, else-not-is_last}

pub loop-i-init : goal.loop-i-init
loop-i-init c =
    takes_start _ _ _ _ refl (λ j h. get_or-replicate 1024 j false false (omega arith))

pub loop-i-preserved : goal.loop-i-preserved
loop-i-preserved c =
    let l = c.loop-i in
    let K = at c.args.rows.now.key in
    let X = at c.args.rows.now.tail in
    let n = c.args.count in
    let q = c.is_last.ensures in
    elim c.if-not-is_last.branch [
      | then-not-is_last+in-Some w ↦
          rw (w.taken-is, w.low-is) (takes_free K X n l.i l.invariant (goes_by _ _ _ q (ap not w.if-not-is_last.true)) (spot_as _ _ _ _ _ w.next_key.ensures.0 w.hinted.ensures) c.requires.keys_rise.rise w.in-Some.is c.requires.count_bound w.if-not-taken-j.true)
      | then-not-is_last+in_default w ↦ rw (w.taken-is, w.low-is, w.lesser-low.ensures) (elim w.in_default.branch [
        | in_default-via-in-Some+else-not-taken-j v ↦
            takes_taken K X n l.i l.invariant (goes_by _ _ _ q (ap not w.if-not-is_last.true)) (spot_as _ _ _ _ _ w.next_key.ensures.0 w.hinted.ensures) c.requires.keys_rise.rise v.in-Some.is v.if-not-taken-j.false
        | in_default-via-in_default v ↦
            takes_none K X n l.i l.invariant (goes_by _ _ _ q (ap not w.if-not-is_last.true)) (spot_as _ _ _ _ _ w.next_key.ensures.0 w.hinted.ensures) v.in_default.is
      ])
      | else-not-is_last w ↦ rw (w.taken-is, w.low-is) (takes_last K X n l.i l.invariant (last_by _ _ _ q (ap not w.if-not-is_last.false)))
    ]
