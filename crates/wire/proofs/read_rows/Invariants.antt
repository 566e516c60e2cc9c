-- `wire::read_rows` meets its contract: after j turns the arrays hold the first j rows of the slice, eleven bytes each; a key not yet read is zero, so packed.
use Rattle.wire.specs.Reading.{RowsRead}
use Rattle.wire.proofs.read_rows.Given as goal

abbrev pub invariant-loop-j : goal.invariant-loop-j
invariant-loop-j l = RowsRead l.s l.j l.key l.tail
