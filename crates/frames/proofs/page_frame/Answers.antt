-- `frames::page_frame` meets its contract: the page's first line and its rows from the list that paging wrote.
use native.Mathlib.Omega.{arith}
use Rattle.desk.specs.Few.{page_within}
use Rattle.frames.specs.Frames.{page_frame_lem}
use Rattle.frames.proofs.page_frame.Goals as goal

pub put_answer-requires : goal.put_answer-requires
put_answer-requires c =
    let h = c.page_head.ensures in
    let n = c.rows_of.ensures in
    let f = (page_within c.page-p.ensures).1 in
    record { count_bound = (h.fits, h.long); rows_in_bounds = omega (arith, c.page-p.auto.out); rows_in_bounds_2 = omega arith }

pub returns : goal.returns
returns c =
    page_frame_lem c.args.s.now c.args.b.now c.page_head.result c.page-p.result c.page-p.new.out c.rows_of.result c.three.ensures.0 c.three-2.ensures.0
    c.page-p.ensures c.page-p.auto.out c.rows_of.ensures c.page_head.ensures c.put_answer.ensures
