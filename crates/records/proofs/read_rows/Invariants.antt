-- `records::read_rows` meets its contract: after j turns the array holds the first j rows of the bytes.
use Rattle.records.specs.Reading.{RowsRead}
use Rattle.records.proofs.read_rows.Given as goal

abbrev pub invariant-loop-j : goal.invariant-loop-j
invariant-loop-j l = RowsRead l.s l.j l.rows
