-- `lookup::barred` meets its contract: a way to p ends with a row that enters p at t, one from q begins with a row of q that exits at t,
-- and what a booked run does is not barred.
use mathlib.Core.Path.{refl}
use Rattle.laws.specs.Tests.{not_both}
use Rattle.rules.specs.Rows.Leads.{one}
use Rattle.lookup.specs.Crossings.{run_of, run_in, leads_enters, among_crosses, none_leaves}
use Rattle.lookup.proofs.barred.Goals as goal

pub returns-then-not-entered : goal.returns-then-not-entered
returns-then-not-entered c =
    (λ e. absurd (not_both e refl), λ w. absurd (not_both (c.entered.ensures.1 (leads_enters c.requires.between.kept.by_place w)) c.if-not-entered.true))

pub tail_near-requires : goal.tail_near-requires
tail_near-requires c =
    run_in (run_of c.requires.between.kept.by_place.timed c.requires.t_lt_field_limit c.key_at.ensures.0 c.first_from-a.ensures c.key_at-2.ensures.0 c.first_from-b.ensures)

pub returns-then-tail_near : goal.returns-then-tail_near
returns-then-tail_near c =
    let R = run_of c.requires.between.kept.by_place.timed c.requires.t_lt_field_limit c.key_at.ensures.0 c.first_from-a.ensures c.key_at-2.ensures.0 c.first_from-b.ensures in
    (λ _. one (among_crosses R c.requires.between.apart c.tail_of.ensures (c.tail_near.ensures c.if-tail_near.true)), λ _. refl)

pub exit_among-requires : goal.exit_among-requires
exit_among-requires c =
    run_in (run_of c.requires.between.kept.by_place.timed c.requires.t_lt_field_limit c.key_at.ensures.0 c.first_from-a.ensures c.key_at-2.ensures.0 c.first_from-b.ensures)

pub returns-then-not-exit_among : goal.returns-then-not-exit_among
returns-then-not-exit_among c =
    let R = run_of c.requires.between.kept.by_place.timed c.requires.t_lt_field_limit c.key_at.ensures.0 c.first_from-a.ensures c.key_at-2.ensures.0 c.first_from-b.ensures in
    (λ e. absurd (not_both e refl), λ w. absurd (none_leaves R (c.exit_among.ensures c.if-not-exit_among.true) w))
