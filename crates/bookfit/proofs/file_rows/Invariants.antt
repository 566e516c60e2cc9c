-- A row goes to the front of its slot's chain, whose old front it then points to: after each turn the listed rows met so far are on the chains of their slots.
use Rattle.bookfit.specs.Filed.{Filed}
use Rattle.bookfit.proofs.file_rows.Given as goal

abbrev pub invariant-loop-x : goal.invariant-loop-x
invariant-loop-x l = Filed l.rows.key l.rows.tail l.list l.m l.x-index l.head l.chain
