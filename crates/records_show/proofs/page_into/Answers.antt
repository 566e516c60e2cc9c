-- `records_show::page_into`: the first two rows of the book.
use Rattle.records_show.specs.Shown.{page_shown}
use Rattle.records_show.proofs.page_into.Goals as goal

pub returns : goal.returns
returns c = page_shown _ _ _ _ c.barn.ensures c.booked.ensures c.first.ensures c.marked.ensures c.requires c.lend_page.ensures
