-- `booking::enter_rows` meets its contract: the outer loop keeps `Inserting`, that the first k of the path's rows are put in and the others can be too;
-- in the inner one the rows from j on are moved up by one and are above the new row, which goes where it ends.
use lib.ListN.{take}
use Rattle.rules.specs.Plan.{run_rows}
use Rattle.rules.specs.Book.{rows_of}
use Rattle.planner.specs.Choice.{plan_of}
use Rattle.ledger.specs.Insert.{Shifted}
use Rattle.ledger.specs.Inserting.{Inserting}
use Rattle.booking.proofs.enter_rows.Given as goal

abbrev pub invariant-loop-j : goal.invariant-loop-j
invariant-loop-j l = Shifted l.r l.initial.b l.b l.j

abbrev pub decreases-loop-j : goal.decreases-loop-j
decreases-loop-j l = l.j

abbrev pub invariant-loop-k : goal.invariant-loop-k
invariant-loop-k l = Inserting (run_rows l.ticket (plan_of l.yard.dur l.windows.place l.label (take l.count l.path))) (rows_of l.initial.b) l.initial.b.next_ticket l.k l.b
