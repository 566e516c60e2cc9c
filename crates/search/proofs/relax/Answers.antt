-- `search::relax` meets its contract: the links of p are followed from the last to the first, each offering the windows of the place that it leads to;
-- the other windows have no entry from w. The number of the link falls.
use Prim.Native.Nat.{ℕ, suc, ◌+◌, ◌-◌, ◌<◌}
use mathlib.Core.Path.{◌≡◌, refl, sym, ◌∙◌}
use native.Mathlib.Omega.{arith}
use Rattle.laws.specs.Lists.{at}
use Rattle.flat.specs.Flat.{rows_in}
use Rattle.flat.specs.Laws.{last_is}
use Rattle.flat.specs.Links.{group_place, group_end}
use Rattle.search.specs.Relax.{along_start, along_next, along_end}
use Rattle.search.proofs.relax.Goals as goal

pub overflow_add-soonest : goal.overflow_add-soonest
overflow_add-soonest c =
    let G = c.requires.ground in
    let h = group_place G.by_place c.args.w c.requires.w_lt_windows.0 in
    omega (arith, c.requires.w_lt_windows.1, G.durs (at c.args.windows.now.place c.args.w) h)

pub loop-cur-init : goal.loop-cur-init
loop-cur-init c =
    along_start (rows_in c.args.rows.now.key c.args.rows.now.tail c.args.rows.now.count) c.requires.ground c.requires.w_lt_windows.0 refl c.requires.labels c.requires.blocks

pub relax_link-requires-clause-between : goal.relax_link-requires-clause-between
relax_link-requires-clause-between c =
    let l = c.loop-cur in
    let G = c.requires.ground in
    let W = c.requires.w_lt_windows in
    let a = c.args in
    let j : ℕ = l.cur - 1 in
    let jk : j < a.yard.now.links = omega (arith, l.invariant.within, c.loop-cur-test.true) in
    let h = group_place G.by_place a.w W.0 in (
      record { kept = W.2; apart = λ z. G.apart j jk (z ∙ sym (l.invariant.leaves j (omega (arith, c.loop-cur-test.true)))) },
      omega (arith, G.windows, W.0),
      omega (arith, W.1, G.durs (at a.windows.now.place a.w) h),
      G.in_day a.w W.0,
    )

pub relax_link-requires-clause-q_bound : goal.relax_link-requires-clause-q_bound
relax_link-requires-clause-q_bound c =
    let G = c.requires.ground in
    let q : ℕ = at c.args.yard.now.to (c.loop-cur.cur - 1) in
    let qn : q < c.args.yard.now.places = G.to_on (c.loop-cur.cur - 1) (omega (arith, c.loop-cur.invariant.within, c.loop-cur-test.true)) in
    (G.by_place.up q qn, omega (arith, group_end G.by_place (q + 1) (omega arith), G.windows), G.durs q qn)

pub relax_link-requires-clause-row1 : goal.relax_link-requires-clause-row1
relax_link-requires-clause-row1 c =
    let G = c.requires.ground in
    let qn = G.to_on (c.loop-cur.cur - 1) (omega (arith, c.loop-cur.invariant.within, c.loop-cur-test.true)) in
    G.of_place (at c.args.yard.now.to (c.loop-cur.cur - 1)) qn

pub loop-cur-smaller : goal.loop-cur-smaller
loop-cur-smaller c =
    let l = c.loop-cur in
    let G = c.requires.ground in
    let j : ℕ = l.cur - 1 in
    let jk : j < c.args.yard.now.links = omega (arith, l.invariant.within, c.loop-cur-test.true) in
    let z = (last_is c.args.yard.now.from (at c.args.yard.now.from j) j).within in
    omega (arith, G.chained.link j jk, c.loop-cur-test.true)

pub loop-cur-preserved : goal.loop-cur-preserved
loop-cur-preserved c =
    let l = c.loop-cur in
    let a = c.args in
    let j : ℕ = l.cur - 1 in
    let ej : suc j ≡ l.cur = omega (arith, c.loop-cur-test.true) in
    let rows = rows_in a.rows.now.key a.rows.now.tail a.rows.now.count in
    along_next rows c.requires.ground c.requires.w_lt_windows.0 refl l.invariant ej refl c.relax_link.ensures.0 c.relax_link.ensures.1.0 c.relax_link.ensures.1.1

pub returns : goal.returns
returns c =
    let l = c.loop-cur in
    let e : l.cur ≡ 0 = omega (arith, c.loop-cur-test.false) in
    (along_end (rows_in c.args.rows.now.key c.args.rows.now.tail c.args.rows.now.count) c.requires.ground c.requires.w_lt_windows.0 refl c.requires.labels.low (rw e at l.invariant), (l.invariant.labels, l.invariant.blocks))
