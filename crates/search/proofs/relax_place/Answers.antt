-- `search::relax_place` meets its contract: windows that end too soon are passed over, each other one is tried, and where one starts too late so do
-- all that come after it.
use Prim.Native.Nat.{◌<◌}
use native.Mathlib.Omega.{arith}
use Rattle.search.specs.Offers.{offered_next, offered_rest}
use Rattle.search.proofs.relax_place.Goals as goal

pub returns-then-from-leave : goal.returns-then-from-leave
returns-then-from-leave c =
    let l = c.loop-v in
    (offered_rest c.requires.row1 l.invariant.from (omega arith) c.requires.labels.low c.if-from-leave.true l.invariant.offered, (l.invariant.labels, l.invariant.blocks))

pub loop-v-preserved : goal.loop-v-preserved
loop-v-preserved c =
    let l = c.loop-v in
    let t : l.v < c.args.b = omega arith in
    let P = c.requires in
    let h : l.v < 1280 = omega (arith, P.a_le_b.1) in
    record {
      from = omega (arith, l.invariant.from);
      to = omega arith;
      offered = offered_next P.row1 l.invariant.from t (omega (arith, l.invariant.labels.len_lab)) (omega (arith, l.invariant.blocks.len_op)) (omega (arith, l.invariant.labels.len_bef)) l.invariant.offered
          (rw (← c.max-lo.ensures, ← c.min-hi.ensures) c.try_window.ensures.0);
      labels = c.try_window.ensures.1.0;
      blocks = c.try_window.ensures.1.1;
    }
