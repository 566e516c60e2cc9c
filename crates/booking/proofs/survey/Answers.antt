-- `booking::survey` meets its contract: places, links and rows stand in the arrays, and what vetting says of them holds of the map and the book.
use mathlib.Core.Path.{◌≡◌}
use lib.ListN.{length}
use borrow.Author.Rules.{rules}
use Rattle.flatten.specs.Lists.{unmapped}
use Rattle.booking.specs.Survey.{surveyed}
use Rattle.booking.proofs.survey.Goals as goal

pub returns-clause-surveyed : goal.returns-clause-surveyed
returns-clause-surveyed c =
    let p : length c.args.m.places ≡ 256 = search (unmapped, rules) in
    let l : length c.args.m.links ≡ 1024 = search (unmapped, rules) in
    let r : length c.args.b.rows ≡ 1024 = search (unmapped, rules) in
    surveyed c.read_book-rows.ensures c.flat_places.ensures c.flat_links.ensures p l r c.vet.ensures
