-- `lookup::fill_hints` meets its contract: the table keeps its length.
use Rattle.std.proofs.Common.{◌≡◌, length}
use Rattle.lookup.proofs.fill_hints.Given as goal

abbrev pub invariant-loop-i : goal.invariant-loop-i
invariant-loop-i l = length l.hint ≡ 4096
