-- `search::first_open` meets its contract: ends rise, so those that come too soon come first.
use Rattle.std.proofs.Common.{◌-◌, ltb, take, drop, rules, tests, arith}
use Rattle.std.proofs.lemmas.List.Sorted.{IsPartitionPoint-from_clause, IsPartitionedBy-ltb}
use Rattle.search.specs.Offers.{open_from, part_rises}
use Rattle.search.proofs.first_open.Goals as goal

pub returns : goal.returns
returns c =
    let a = c.args in
    let xs = take (a.b - a.a) (drop a.a a.end.now) in
    let rises = part_rises a.end.now c.requires.a_le_b.0 (omega arith) c.requires.by_index in
    let point = IsPartitionPoint-from_clause (λ e. ltb e a.x) _ _ c.partition_point.ensures.partitioned (IsPartitionedBy-ltb (λ e. e) _ a.x rises) (λ q r f k. search (rules, tests)) in
    open_from a.end.now c.requires.a_le_b.0 (omega arith) c.partition_point.ensures.bound point
