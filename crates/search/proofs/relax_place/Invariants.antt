-- `search::relax_place` meets its contract: windows that end too soon are passed over, each other one is tried, and where one starts too late so do
-- all that come after it.
use Rattle.flat.specs.Flat.{rows_held}
use Rattle.search.specs.Offers.{Relaxing}
use Rattle.search.proofs.relax_place.Given as goal

abbrev pub invariant-loop-v : goal.invariant-loop-v
invariant-loop-v l = Relaxing (rows_held l.rows) l.q l.p l.soonest l.leave l.d l.windows.start l.windows.end l.a l.b l.w l.initial.nodes.label l.initial.nodes.live l.initial.nodes.before l.nodes.label l.nodes.live l.nodes.least l.nodes.before l.v
