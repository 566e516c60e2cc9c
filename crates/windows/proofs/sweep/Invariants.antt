-- The windows written are the place's free windows, all and only, and None is returned exactly where a second is overfull. After i - a rows the state
-- keeps, for every second from the last entry on, that the load so far is the number of kept exits above it: a row that enters while all of
-- them lie ahead makes the place overfull, and the stretch from `free` up to its entry is a window where the place fills up and the stretch lasts.
use Prim.Native.Nat.{◌-◌}
use Rattle.windows.specs.Sweep.{entries_from, exits_from}
use Rattle.windows.specs.Turns.{State}
use Rattle.flat.specs.Flat.{span_at}
use Rattle.windows.proofs.sweep.Given as goal

abbrev pub invariant-loop-i : goal.invariant-loop-i
invariant-loop-i l = State (entries_from l.key l.a) (exits_from l.tail l.a) l.c l.d l.p l.from (span_at l.initial.place l.initial.start l.initial.end) (l.i - l.a) l.top l.low l.free l.w l.start l.end l.place
