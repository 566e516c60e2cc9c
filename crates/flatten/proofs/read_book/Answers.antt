-- `flatten::read_book` meets its contract: after i turns of the loop the book's first i rows stand in the arrays, and past the count there are zeros.
-- The first row out of range and a used slot past the count are none of a well-formed book.
use mathlib.Core.Path.{◌≡◌}
use native.Mathlib.Omega.{arith}
use borrow.Author.Rules.{rules}
use lib.ListN.{length}
use Rattle.flatten.specs.Lists.{unmapped}
use Rattle.flatten.specs.Books.{book_flat}
use Rattle.flatten.specs.Read.{read_all}
use Rattle.flatten.proofs.read_book.Goals as goal

pub returns : goal.returns
returns c =
    let b = c.args.b in
    let n : length b.rows ≡ 1024 = search (unmapped, rules) in
    let all : c.loop-i.i ≡ b.count = omega arith in
    read_all (book_flat b n (omega arith) (rw all at c.loop-i.invariant) (c.are_unused.ensures.0 c.if-not-are_unused.false))
