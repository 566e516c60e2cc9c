-- `records::find_plan` meets its contract: the plan is asked for with the front of a list of 1,280 packed rows, and its rows are read back from there.
use mathlib.Core.List.{List}
use Prim.Native.Nat.{ℕ}
use mathlib.Core.Path.{◌≡◌, refl, sym}
use Rattle.std.proofs.Common.{subst}
use lib.ListN.{length, replicate, length-replicate}
use Rattle.rules.specs.Bytes.{list_size}
use Rattle.records.specs.Found.{PlanFound, plan_readable, plan_front}
use Rattle.records.proofs.find_plan.Goals as goal

abbrev list : List ℕ
list = replicate list_size 0

long : length list ≡ list_size
long = length-replicate {A = ℕ} list_size 0

pub read_answer-requires : goal.read_answer-requires
read_answer-requires c = (plan_readable c.lent-n.ensures list long c.plan-a.ensures refl c.plan-a.auto.out).0

pub returns : goal.returns
returns c =
    let r = c.read_answer.result in
    let e = c.read_answer.ensures in
    subst (PlanFound c.args.m c.args.b c.args.start c.args.destination c.args.second c.args.room) (λ i. record { rows = r.rows; count = r.count; answer = sym e.1 i }) (plan_front c.lent-n.ensures list long c.plan-a.ensures e.0 e.2)
