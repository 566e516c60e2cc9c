-- `planning::plan` meets its contract: the arrays are the map and the book, so that planning over them is planning on these.
use mathlib.Core.Path.{◌≡◌}
use lib.ListN.{length}
use borrow.Author.Rules.{rules}
use Rattle.flat.specs.Laws.{blank}
use Rattle.flatten.specs.Lists.{unmapped}
use Rattle.flatten.specs.Given.{given}
use Rattle.desk.specs.Transfer.{plan_as}
use Rattle.planning.proofs.plan.Goals as goal

pub read_book-requires-clause-by_index : goal.read_book-requires-clause-by_index
read_book-requires-clause-by_index c = blank (λ x e. e) c.default-2.ensures.1.1.0

pub returns : goal.returns
returns c =
    let p : length c.args.m.places ≡ 256 = search (unmapped, rules) in
    let l : length c.args.m.links ≡ 1024 = search (unmapped, rules) in
    plan_as (given c.flat_places.ensures c.flat_links.ensures p l c.read_book.ensures) c.plan_flat.ensures
