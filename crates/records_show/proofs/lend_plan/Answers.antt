-- `records_show::lend_plan`: the records that are lent hold what the call left there, and the others what they held.
use Rattle.std.proofs.Common.{◌≡◌, length, ◌∙◌, arith, rules, length-take-le}
use Rattle.std.proofs.lemmas.Slice.{drop-append-drop}
use Rattle.records_show.proofs.Lent.{take_lent}
use Rattle.records_show.proofs.lend_plan.Goals as goal

pub returns : goal.returns
returns c =
    let eight : length c.args.rows ≡ 8 = search rules in
    let long : length c.plan_rows-answer.new.out ≡ c.args.n = c.plan_rows-answer.auto.out ∙ length-take-le c.args.n c.args.rows (omega arith) in
    (rw (take_lent c.args.n c.args.rows c.plan_rows-answer.new.out long) c.plan_rows-answer.ensures, drop-append-drop c.args.n c.args.rows c.plan_rows-answer.new.out c.args.n (omega arith) long)
