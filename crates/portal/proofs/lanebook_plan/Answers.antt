-- `portal::lanebook_plan` meets its contract: the arrays are the slices, or break a rule where the slices' shape does, so that one call of
-- planning over them decides all; its answer's count is at most the records of the caller's list and the rows of a book together, so that the
-- packed number overflows nowhere.
use Prim.Native.Nat.{◌<◌}
use native.Mathlib.Omega.{arith}
use lib.ListN.{length}
use Rattle.flat.specs.Laws.{blank}
use Rattle.portal.specs.Read.{portal_plan}
use Rattle.desk.specs.Few.{plan_few}
use Rattle.portal.proofs.lanebook_plan.Goals as goal

pub read_book-requires : goal.read_book-requires
read_book-requires c = blank (λ x e. e) c.default-rows.ensures.1.1.0

pub packed_plan-requires : goal.packed_plan-requires
packed_plan-requires c =
    let room : length c.args.answer.now < 18446744073709551616 = c.well_formed.1.1.1.1.1.0.0 in
    omega (arith, room, plan_few (λ C. C.few) c.plan_flat-p.ensures)

pub returns : goal.returns
returns c =
    portal_plan c.read_map.ensures c.read_book.ensures c.plan_flat-p.ensures c.packed_plan.ensures
