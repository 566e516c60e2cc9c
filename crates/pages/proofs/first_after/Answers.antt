-- The first row above the cursor is found: the keys rise, so those that are not above it come first.
use native.Mathlib.Omega.{arith}
use borrow.Author.Rules.{rules}
use lib.ListN.{length}
use Prim.Native.Nat.{◌≤◌}
use Rattle.std.proofs.lemmas.List.Sorted.{IsPartitionPoint-from_clause}
use Rattle.rules.specs.Rows.{cursor_key}
use Rattle.pages.specs.Search.{passed, passed_first, first_found}
use Rattle.pages.proofs.first_after.Goals as goal

pub returns-clause-first : goal.returns-clause-first
returns-clause-first c =
    let a = c.args in
    let k = cursor_key a.c in
    let P = c.partition_point.ensures in
    let long : a.rows.now.count ≤ length a.rows.now.key = omega arith in
    let point = IsPartitionPoint-from_clause (passed k) _ _ P.partitioned (passed_first _ _ long c.requires.keys_rise k) (λ a r q h. search rules) in
    first_found _ _ long a.rows.now.tail k c.partition_point.result P.bound point
