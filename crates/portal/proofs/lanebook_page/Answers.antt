-- `portal::lanebook_page` meets its contract: the arrays are the slices, or break a rule where the slices' shape does, so that one call of
-- paging over them decides all.
use Rattle.flat.specs.Laws.{blank}
use Rattle.portal.specs.Read.{portal_page}
use Rattle.desk.specs.Few.{page_few}
use Rattle.portal.proofs.lanebook_page.Goals as goal

pub read_book-requires : goal.read_book-requires
read_book-requires c = blank (λ x e. e) c.default-rows.ensures.1.1.0

pub packed_page-requires : goal.packed_page-requires
packed_page-requires c =
    page_few (λ C. C.few) c.page_flat-p.ensures

pub returns : goal.returns
returns c =
    portal_page c.read_map.ensures c.read_book.ensures c.page_flat-p.ensures c.packed_page.ensures
