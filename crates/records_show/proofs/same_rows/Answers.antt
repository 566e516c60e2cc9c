-- `records_show::same_rows`: two arrays are equal where all their records are.
use Rattle.std.proofs.Common.{rules}
use Rattle.std.specs.Bool.{Decides}
use Rattle.std.specs.Prelude.{◌≡◌}
use Rattle.std.proofs.lemmas.Slice.Eq.{slice_eq-Decides}
use Rattle.rules.specs.declared.Row.{Row}
use Rattle.rules.specs.contracts.RowPartialEq.TheImpl.{eq-value}
use Rattle.records_show.proofs.same_rows.Goals as goal

same_row : (a b : Row) → Decides (eq-value.it a b) (a ≡ b)
same_row a b = search rules

pub returns : goal.returns
returns c = slice_eq-Decides same_row _ _ _ c.eq.ensures
