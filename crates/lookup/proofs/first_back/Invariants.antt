-- `lookup::first_back` meets its contract: no key passed is below k, and where one is all before it are.
use Prim.Native.Nat.{ℕ, ◌≤◌, ◌<◌}
use Rattle.laws.specs.Lists.{at}
use Rattle.lookup.proofs.first_back.Given as goal

abbrev pub invariant-loop-i : goal.invariant-loop-i
invariant-loop-i l = (l.i ≤ l.n) × ((j : ℕ) → l.i ≤ j → j < l.n → l.k ≤ at l.key j)
