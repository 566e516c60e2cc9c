-- `frames::put_rows` meets its contract: after j turns the lines of the first j records are put, and each turn puts one more.
use Rattle.frames.specs.Put.{RowsPut}
use Rattle.frames.proofs.put_rows.Given as goal

abbrev pub invariant-loop-j : goal.invariant-loop-j
invariant-loop-j l = RowsPut l.list l.j l.at l.initial.out l.out
