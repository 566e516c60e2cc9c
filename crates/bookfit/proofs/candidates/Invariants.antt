-- The candidates among the first i rows are listed, in their order; the rows looked at are rows of the book.
use Rattle.bookfit.specs.Ring.{Candidate, Listed}
use Rattle.bookfit.proofs.candidates.Given as goal

abbrev pub invariant-loop-i : goal.invariant-loop-i
invariant-loop-i l = Listed (Candidate l.rows.key l.rows.tail l.count) l.rows.key l.rows.tail l.i l.list l.m
