-- `wire::copy_rows` meets its contract: after j turns the first j rows are written, and each turn puts one more over the next record.
use Rattle.wire.specs.Written.{Copied}
use Rattle.wire.proofs.copy_rows.Given as goal

abbrev pub invariant-loop-j : goal.invariant-loop-j
invariant-loop-j l = Copied l.rows.key l.rows.tail l.from l.j l.initial.out l.out
