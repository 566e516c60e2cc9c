-- The windows written are the place's free windows, all and only, and None is returned exactly where a second is overfull. After i - a rows the state
-- keeps, for every second from the last entry on, that the load so far is the number of kept exits above it: a row that enters while all of
-- them lie ahead makes the place overfull, and the stretch from `free` up to its entry is a window where the place fills up and the stretch lasts.
use native.Mathlib.Omega.{arith}
use Prim.Native.Nat.{ℕ, ◌+◌, ◌-◌, ◌<◌}
use mathlib.Core.Path.{◌≡◌}
use lib.ListN.{replicate, length-replicate}
use Rattle.windows.specs.Sweep.{entries_from, exits_from}
use Rattle.windows.specs.Loads.{zeros}
use Rattle.windows.specs.Turns.{state_none, too_many, state_room, state_short, state_more, answer_over, answer_more}
use Rattle.windows.proofs.sweep.Goals as goal
use Rattle.windows.proofs.sweep.Goals.{then-t-u+then-free-d, then-t-u+else-free-d, else-t-u}

pub loop-i-init : goal.loop-i-init
loop-i-init c =
    let z : c.args.a - c.args.a ≡ 0 = omega arith in
    rw z (state_none {top = replicate 16 0} c.requires.sweepable.cap_from (length-replicate {A = ℕ} 16 0) (zeros 16) c.requires.start_len c.requires.end_len c.requires.place_len)

pub returns-then-t-top : goal.returns-then-t-top
returns-then-t-top c =
    let G = c.requires.sweepable in
    let I = c.loop-i.invariant in
    let z : c.args.a + (c.loop-i.i - c.args.a) ≡ c.loop-i.i = omega arith in
    let e : c.entry_of-t.result ≡ entries_from c.args.key.now c.args.a (c.loop-i.i - c.args.a) = rw z c.entry_of-t.ensures in
    answer_over I.len_s I.len_e I.len_p (too_many G.rows G.cap_to G.dur_from I (omega arith) (omega (arith, e, c.if-t-top.true)))

pub loop-i-preserved : goal.loop-i-preserved
loop-i-preserved c =
    let G = c.requires.sweepable in
    let I = c.loop-i.invariant in
    let n = c.loop-i.i - c.args.a in
    let h : n < c.args.b - c.args.a = omega arith in
    let q = c.if-t-top.false in
    let z : c.args.a + n ≡ c.loop-i.i = omega arith in
    let m : c.loop-i.i + 1 - c.args.a ≡ n + 1 = omega arith in
    let e : c.entry_of-t.result ≡ entries_from c.args.key.now c.args.a n = rw z c.entry_of-t.ensures in
    let x : c.exit_of.result ≡ exits_from c.args.tail.now c.args.a n = rw z c.exit_of.ensures.0 in
    let A = rw x at c.least_at-low.ensures in
    elim c.if-t-u.branch [
      | then-t-u+then-free-d w ↦
          rw (w.start-is, w.end-is, w.place-is, w.w-is, w.free-is, m, e, x)
          (state_more G.rows G.cap_to G.dur_from I h (omega (arith, e, q)) A (omega (arith, e, rw x at w.if-t-u.true)) (omega (arith, e, w.if-free-d.true)) (omega (arith, I.few)))
      | then-t-u+else-free-d w ↦
          rw (w.start-is, w.end-is, w.place-is, w.w-is, w.free-is, m, x)
          (state_short G.rows G.cap_to G.dur_from I h (omega (arith, e, q)) A (omega (arith, e, rw x at w.if-t-u.true)) (omega (arith, e, w.if-free-d.false)))
      | else-t-u w ↦
          rw (w.start-is, w.end-is, w.place-is, w.w-is, w.free-is, m, x)
          (state_room G.rows G.cap_to G.dur_from I h (omega (arith, e, q)) A (omega (arith, e, rw x at w.if-t-u.false)))
    ]

pub returns-then-free-d-le-DAY : goal.returns-then-free-d-le-DAY
returns-then-free-d-le-DAY c =
    let G = c.requires.sweepable in
    let l = c.loop-i in
    answer_more G.dur_from G.spare (omega arith) l.invariant c.if-free-d-le-DAY.true
