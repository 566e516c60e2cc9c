-- `records::page_rows` meets its contract: the rows that were found stand over the first records, none where the page is refused.
use Rattle.std.proofs.Common.{refl}
use Rattle.records.proofs.page_rows.Goals as goal

pub returns : goal.returns
returns c = rw c.copy_rows.ensures (c.find_page-f.ensures.says c.args.out.now refl)
