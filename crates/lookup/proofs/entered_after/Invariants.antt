-- `lookup::entered_after` meets its contract: all keys passed are below the second's first key, so that the first that is not is the one to look at.
use Prim.Native.Nat.{ℕ, ◌<◌}
use Rattle.laws.specs.Lists.{at}
use Rattle.lookup.proofs.entered_after.Given as goal

abbrev pub invariant-loop-j : goal.invariant-loop-j
invariant-loop-j l = (u : ℕ) → u < l.j → at l.key u < l.k
