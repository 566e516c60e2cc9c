-- `search::first_entry` meets its contract: every second passed is barred, so that the first that is not is the least.
-- The seconds up to hi are left to look at.
use Prim.Native.Nat.{◌+◌, ◌-◌}
use Rattle.flat.specs.Flat.{rows_held}
use Rattle.search.specs.Entries.{Passed}
use Rattle.search.proofs.first_entry.Given as goal

abbrev pub invariant-window : goal.invariant-window
invariant-window l = Passed (rows_held l.rows) l.q l.p l.lo l.t

abbrev pub decreases-window : goal.decreases-window
decreases-window l = l.hi + 1 - l.t
