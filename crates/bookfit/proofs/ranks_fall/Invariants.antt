-- Each listed row met so far that is ringed is numbered above all that follow it, since one that is not above them is looked at by itself. So no row is
-- ringed once all are passed; and one that is barred is a row of the book that goes on.
use Rattle.bookfit.specs.Filed.{Passed}
use Rattle.bookfit.proofs.ranks_fall.Given as goal

abbrev pub invariant-loop-y : goal.invariant-loop-y
invariant-loop-y l = Passed l.rows.key l.rows.tail l.count l.list l.head l.chain l.rank l.y-index
