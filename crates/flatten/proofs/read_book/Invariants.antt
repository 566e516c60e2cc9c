-- `flatten::read_book` meets its contract: after i turns of the loop the book's first i rows stand in the arrays, and past the count there are zeros.
-- The first row out of range and a used slot past the count are none of a well-formed book.
use Rattle.flatten.specs.Books.{RowsTo}
use Rattle.flatten.proofs.read_book.Given as goal

abbrev pub invariant-loop-i : goal.invariant-loop-i
invariant-loop-i l = RowsTo l.fn.b l.key l.tail l.i
