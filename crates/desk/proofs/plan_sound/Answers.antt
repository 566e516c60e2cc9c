-- `desk::plan_sound` meets its contract: each refusal stands where its condition is tested, in the order of the table, and the plan is the route's.
use mathlib.Core.Path.{refl, sym, ap, ◌∙◌}
use native.Mathlib.Omega.{arith}
use lib.ListN.{get_or-replicate}
use Rattle.rules.specs.declared.Row.{Row}
use Rattle.desk.specs.Planning.{route_fits, route_long, route_arrives, plan_off_map, plan_off_day, plan_none, plan_short, plan_done}
use Rattle.flat.specs.Laws.{places_long}
use Rattle.lanes.specs.Yards.{yard_rules}
use Rattle.search.specs.Lanes.{lanes_ground}
use Rattle.desk.proofs.plan_sound.Goals as goal
use Rattle.desk.proofs.plan_sound.Goals.{then-a-yard-via-then-a-yard, then-a-yard-via-else-a-yard+then-z-yard}

pub returns-then-a-yard : goal.returns-then-a-yard
returns-then-a-yard c =
    let a = c.args in
    let l = places_long a.yard.now.cap a.yard.now.dur a.yard.now.places in
    plan_off_map (λ h. let x = h.0 in let y = h.1 in elim c.then-a-yard.branch [
      | then-a-yard-via-then-a-yard w ↦ omega arith
      | then-a-yard-via-else-a-yard+then-z-yard w ↦ omega arith
    ]) refl

pub returns-then-s-gt-DAY : goal.returns-then-s-gt-DAY
returns-then-s-gt-DAY c =
    let a = c.args in
    let l = places_long a.yard.now.cap a.yard.now.dur a.yard.now.places in
    plan_off_day (omega (arith, c.if-a-yard.false), omega (arith, c.if-z-yard.false)) c.if-s-gt-DAY.true refl

pub route-requires : goal.route-requires
route-requires c =
    let P = c.requires in
    record { lanes = P.lanes; by_index = P.by_index; origin_lt_places = (c.if-a-yard.false, c.if-z-yard.false, c.if-s-gt-DAY.false); by_index_2 = λ v h. get_or-replicate 1280 v 86401 0 h; label_len = (refl, refl) }

pub returns-in_default : goal.returns-in_default
returns-in_default c =
    let a = c.args in
    let l = places_long a.yard.now.cap a.yard.now.dur a.yard.now.places in
    plan_none (omega (arith, c.if-a-yard.false), omega (arith, c.if-z-yard.false)) c.if-s-gt-DAY.false c.in_default.ensures.none refl

pub returns-then-out-c : goal.returns-then-out-c
returns-then-out-c c =
    let a = c.args in
    let P = c.requires in
    let l = places_long a.yard.now.cap a.yard.now.dur a.yard.now.places in
    let R = c.in-Some.ensures in
    plan_short (omega (arith, c.if-a-yard.false), omega (arith, c.if-z-yard.false)) c.if-s-gt-DAY.false (yard_rules P.lanes.rules) P.by_index R.chosen
    (omega (arith, route_long (route_fits (lanes_ground P.lanes) R), c.if-out-c.true)) refl

pub write_plan-requires : goal.write_plan-requires
write_plan-requires c =
    record { path_fits = route_fits (lanes_ground c.requires.lanes) c.in-Some.ensures; count_in_bounds = omega (arith, c.if-out-c.false) }

pub step_at-last-requires : goal.step_at-last-requires
step_at-last-requires c =
    record { path_fits = route_fits (lanes_ground c.requires.lanes) c.in-Some.ensures; k_lt_count = omega (arith, c.in-Some.ensures.some) }

pub returns : goal.returns
returns c =
    let a = c.args in
    let P = c.requires in
    let l = places_long a.yard.now.cap a.yard.now.dur a.yard.now.places in
    let R = c.in-Some.ensures in
    let F = route_fits (lanes_ground P.lanes) R in
    plan_done (omega (arith, c.if-a-yard.false), omega (arith, c.if-z-yard.false)) c.if-s-gt-DAY.false (yard_rules P.lanes.rules) P.by_index R.chosen
    (omega (arith, route_long F, c.if-out-c.false)) (route_arrives 0 F R.some ∙ sym (ap (λ (x : Row). x.exit) c.step_at-last.ensures)) (route_long F) c.write_plan.ensures
