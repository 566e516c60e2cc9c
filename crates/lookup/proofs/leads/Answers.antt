-- `lookup::leads` meets its contract: the places before h on the list are expanded; when all are, the marks are closed under crossings. All rows of
-- a place that exit at t are among those that are read.
use mathlib.Core.Path.{refl}
use Rattle.laws.specs.Tests.{not_both}
use Rattle.flat.specs.Flat.{rows_in}
use Rattle.lookup.specs.Lists.{listing_start}
use Rattle.lookup.specs.Spread.{spread_as, going_turn, going_met, going_none}
use Rattle.lookup.specs.Crossings.{run_of, run_in, onward_crossing, crossing_onward}
use Rattle.lookup.proofs.leads.Goals as goal

pub put-len-requires : goal.put-len-requires
put-len-requires c =
    listing_start _ _ refl refl

pub expand-requires-clause-a_le_b : goal.expand-requires-clause-a_le_b
expand-requires-clause-a_le_b c =
    run_in (run_of c.requires.timed c.requires.t_lt_field_limit c.key_at-in-loop-h.ensures.0 c.first_back-a.ensures c.key_at.ensures.0 c.first_from-b.ensures)

pub returns-in_default : goal.returns-in_default
returns-in_default c =
    let a = c.args in
    let l = c.loop-h in
    let R = run_of c.requires.timed c.requires.t_lt_field_limit c.key_at-in-loop-h.ensures.0 c.first_back-a.ensures c.key_at.ensures.0 c.first_from-b.ensures in
    (λ _. going_met (rows_in a.rows.now.key a.rows.now.tail a.n) a.t a.q a.p l.invariant c.loop-h-test.true (onward_crossing R (c.expand.ensures.met c.in_default.is)), λ _. refl)

pub loop-h-preserved : goal.loop-h-preserved
loop-h-preserved c =
    let a = c.args in
    let R = run_of c.requires.timed c.requires.t_lt_field_limit c.key_at-in-loop-h.ensures.0 c.first_back-a.ensures c.key_at.ensures.0 c.first_from-b.ensures in
    going_turn (rows_in a.rows.now.key a.rows.now.tail a.n) a.t a.q a.p c.loop-h.invariant c.loop-h-test.true
    (spread_as (λ y o. onward_crossing R o) (λ y x. crossing_onward R x) (c.expand.ensures.spread _ c.in-Some.is))

pub returns : goal.returns
returns c =
    let a = c.args in
    (λ e. absurd (not_both e refl), λ w. absurd (going_none (rows_in a.rows.now.key a.rows.now.tail a.n) a.t a.q a.p c.loop-h.invariant c.loop-h-test.false w))
