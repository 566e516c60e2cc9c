-- `booking::enter_rows` meets its contract: the outer loop keeps `Inserting`, that the first k of the path's rows are put in and the others can be too;
-- in the inner one the rows from j on are moved up by one and are above the new row, which goes where it ends.
use Prim.Native.Nat.{ℕ, ◌<◌}
use mathlib.Core.Path.{sym, ap, ◌∙◌}
use native.Mathlib.Omega.{arith}
use mathlib.Core.List.{List}
use lib.ListN.{length, take}
use Rattle.rules.specs.declared.Row.{Row}
use Rattle.rules.specs.declared.Book.{Book}
use Rattle.rules.specs.Rows.{row_key, row_at, lessb}
use Rattle.rules.specs.Plan.{run_rows}
use Rattle.planner.specs.Choice.{plan_of}
use Rattle.planner.specs.Route.{PathFits, path_rows}
use Rattle.ledger.specs.Insert.{shift_next, shift_done}
use Rattle.ledger.specs.Inserting.{Inserting, inserted_ready, inserted_long, inserted_next, inserted_all}
use Rattle.booking.proofs.enter_rows.Goals as goal
use Rattle.booking.proofs.enter_rows.Goals.{else-loop-j-test, then-loop-j-test+then-not-before}

-- as many rows as the count says
within : {D P L path : List ℕ} {count : ℕ} (ticket : ℕ) → PathFits D P L path count → (k : ℕ) → k < count → k < length (run_rows ticket (plan_of D P L (take count path)))
within {D} {P} {L} {path} {count} ticket f k h = omega (arith, path_rows D P L path count ticket f)

-- while rows are left there is room for one
room : {D P L path : List ℕ} {count k t : ℕ} (ticket : ℕ) {rows : List Row} {s : Book} → PathFits D P L path count
    → Inserting (run_rows ticket (plan_of D P L (take count path))) rows t k s → k < count → s.count < 1024
room {k = k} ticket F I h = (inserted_ready I (within ticket F k h)).0

pub offset_bounds-b-j : goal.offset_bounds-b-j
offset_bounds-b-j c = omega (arith, c.loop-j.invariant.within, room c.args.ticket c.requires.path_fits c.loop-k.invariant c.loop-k-test.true)

pub bounds-b-j-in-loop-j : goal.bounds-b-j-in-loop-j
bounds-b-j-in-loop-j c = omega (arith, c.loop-j.invariant.within, room c.args.ticket c.requires.path_fits c.loop-k.invariant c.loop-k-test.true)

pub loop-j-preserved : goal.loop-j-preserved
loop-j-preserved c =
    let I = c.loop-k.invariant in
    shift_next _ _ (inserted_long I) (inserted_ready I (within c.args.ticket c.requires.path_fits c.loop-k.k c.loop-k-test.true)).0 c.loop-j.invariant (omega arith)
    (rw c.from-key.ensures at (sym c.before-in-loop-j.ensures ∙ c.if-not-before.false))

pub bounds-b-j-in-loop-k : goal.bounds-b-j-in-loop-k
bounds-b-j-in-loop-k c = omega (arith, c.loop-j.invariant.within, room c.args.ticket c.requires.path_fits c.loop-k.invariant c.loop-k-test.true)

pub overflow_add-b : goal.overflow_add-b
overflow_add-b c = omega (arith, room c.args.ticket c.requires.path_fits c.loop-k.invariant c.loop-k-test.true)

pub loop-k-preserved : goal.loop-k-preserved
loop-k-preserved c =
    let I = c.loop-k.invariant in
    let h = within c.args.ticket c.requires.path_fits c.loop-k.k c.loop-k-test.true in
    let l = c.loop-j in
    let r = c.step_at-r in
    let f = inserted_ready I h in
    inserted_next I h r.ensures
    (shift_done _ _ (inserted_long I) f.0 l.invariant f.1.0 f.1.1
    (λ i e. elim c.loop-j-test.branch [
      | else-loop-j-test w ↦ absurd (omega (arith, w.loop-j-test.false))
      | then-loop-j-test+then-not-before w ↦
          ap (λ (k : ℕ). lessb (row_key r.result) (row_key (row_at l.b.rows k))) (omega arith) ∙ rw c.from-key.ensures at (sym w.before-in-loop-j.ensures ∙ w.if-not-before.true)
    ]))

pub returns : goal.returns
returns c =
    let l = path_rows c.args.yard.now.dur c.args.windows.now.place c.args.label.now c.args.path.now c.args.count c.args.ticket c.requires.path_fits in
    inserted_all c.loop-k.invariant (omega (arith, c.loop-k.invariant.within, c.loop-k-test.false))
