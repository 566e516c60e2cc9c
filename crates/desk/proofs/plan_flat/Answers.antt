-- `desk::plan_flat` meets its contract: what vetting refuses is refused, and what is sound is planned on.
use mathlib.Core.Path.{refl}
use Rattle.std.proofs.lemmas.Result.{err_from_is_err_and}
use Rattle.flat.specs.Laws.{blank}
use Rattle.vet.specs.Vetted.{vetted_refused, vetted_sound}
use Rattle.desk.specs.Planning.{plan_refused}
use Rattle.desk.proofs.plan_flat.Goals as goal

pub vet-requires-clause-by_index : goal.vet-requires-clause-by_index
vet-requires-clause-by_index c = blank (λ x e. e) c.default-ways.ensures.0

pub plan_sound-requires : goal.plan_sound-requires
plan_sound-requires c =
    let S = vetted_sound c.vet.ensures c.in_ok-windows.was in
    record { lanes = S.2; by_index = S.1.room }

pub returns-in_err-windows : goal.returns-in_err-windows
returns-in_err-windows c =
    let p = err_from_is_err_and c.from_residual.result c.from_residual.ensures.1 in
    rw (p.1, p.2) (vetted_refused c.vet.ensures c.in_err-windows.was (plan_refused refl))
