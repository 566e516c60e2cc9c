-- What plan and page say of a map and a book in one form they say of them in another.
use Rattle.std.specs.Prelude.{ℕ, List}
use Rattle.std.proofs.Common.{subst₂}
use Rattle.rules.specs.declared.Row.{Row}
use Rattle.rules.specs.Map.{Yard}
use Rattle.rules.specs.Rows.{Key}
use Rattle.rules.specs.Gate.{Papers}
use Rattle.rules.specs.GateLaws.{SamePapers, checked_as}
use Rattle.rules.specs.Answer.{Planned, Paged, PlanSound, PlanSays, PageSound, PageSays}

module _ {g h : Papers} (S : SamePapers g h) {was out : List ℕ} where
  pub plan_as : {start dest s : ℕ} {r : Planned} → PlanSays g start dest s was out r → PlanSays h start dest s was out r
  plan_as {start} {dest} {s} {r} =
      checked_as S (λ n i _ x. x) (λ M B p. subst₂ (λ (z : Yard) (l : List Row). PlanSound z l start dest s was out r) (S.yard M) (S.rows M B.counted) p)

  pub page_as : {size : ℕ} {k : Key} {r : Paged} → PageSays g size k was out r → PageSays h size k was out r
  page_as {size} {k} {r} =
      checked_as S (λ n i _ x. x) (λ M B p. subst₂ (λ (z : Yard) (l : List Row). PageSound z l size k was out r) (S.yard M) (S.rows M B.counted) p)
