-- `planner::route` meets its contract: without a window to begin in, or with no window of the destination reached, no plan is permitted; else the trail
-- to the window that the search found is the chosen plan.
use Rattle.std.proofs.Common.{◌+◌, refl, arith}
use Rattle.std.proofs.lemmas.List.{get_or-replicate}
use Rattle.search.specs.Lanes.{lanes_ground, lanes_places}
use Rattle.flat.specs.Links.{group_end}
use Rattle.planner.specs.Choice.{src_in}
use Rattle.planner.specs.Route.{routed_unbegun, routed_unreached, routed_found}
use Rattle.planner.proofs.route.Goals as goal

pub offset_bounds-windows-origin : goal.offset_bounds-windows-origin
offset_bounds-windows-origin c = omega (arith, lanes_places c.requires.lanes)

pub bounds-windows-origin : goal.bounds-windows-origin
bounds-windows-origin c = omega (arith, lanes_places c.requires.lanes)

pub overflow_add-b : goal.overflow_add-b
overflow_add-b c = omega (arith, lanes_places c.requires.lanes)

pub offset_bounds-windows-origin-2 : goal.offset_bounds-windows-origin-2
offset_bounds-windows-origin-2 c = omega (arith, lanes_places c.requires.lanes)

pub bounds-windows-origin-2 : goal.bounds-windows-origin-2
bounds-windows-origin-2 c = omega (arith, lanes_places c.requires.lanes)

pub offset_bounds-yard-origin : goal.offset_bounds-yard-origin
offset_bounds-yard-origin c = omega (arith, lanes_places c.requires.lanes)

pub bounds-yard-origin : goal.bounds-yard-origin
bounds-yard-origin c = omega (arith, lanes_places c.requires.lanes)

pub begin_at-requires : goal.begin_at-requires
begin_at-requires c =
    let G = lanes_ground c.requires.lanes in
    let o = c.args.origin in
    let oh = c.requires.origin_lt_places.0 in
    record {
      a_le_b = (omega (arith, G.by_place.up o oh), omega (arith, group_end G.by_place (o + 1) (omega arith), G.windows), c.requires.origin_lt_places.2, G.durs o oh);
      row1 = G.of_place o oh;
    }

pub returns-in_err-src : goal.returns-in_err-src
returns-in_err-src c =
    let P = c.requires in
    routed_unbegun P.lanes P.by_index c.args.origin c.args.dest c.args.s P.origin_lt_places c.in_err-src.ensures _ _ c.from_residual.ensures P.by_index_2 P.label_len.1

pub search-requires : goal.search-requires
search-requires c =
    let P = c.requires in
    record {
      lanes = P.lanes;
      src_lt_windows = (src_in P.lanes P.by_index c.args.origin c.args.dest c.args.s P.origin_lt_places.0 P.origin_lt_places.1 P.origin_lt_places.2 c.in_ok-src.ensures, omega (arith, P.origin_lt_places.2));
      by_index = P.by_index_2;
      src_value = get_or-replicate 1280 c.in_ok-src.src 0 0 c.in_ok-src.ensures.within;
      label_len = (P.label_len.0, refl);
    }

pub returns-in_err-g : goal.returns-in_err-g
returns-in_err-g c =
    let P = c.requires in
    routed_unreached P.lanes P.by_index c.args.origin c.args.dest c.args.s P.origin_lt_places c.in_ok-src.ensures c.in_err-g.ensures _ c.from_residual-in_err-g.ensures P.label_len.1

pub returns : goal.returns
returns c =
    let P = c.requires in
    routed_found P.lanes P.by_index c.args.origin c.args.dest c.args.s P.origin_lt_places c.in_ok-src.ensures c.in_ok-g.ensures c.trail.ensures
