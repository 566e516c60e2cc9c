-- `lookup::leads` meets its contract: the places before h on the list are expanded; when all are, the marks are closed under crossings. All rows of
-- a place that exit at t are among those that are read.
use Prim.Native.Nat.{◌-◌}
use Rattle.flat.specs.Flat.{rows_in}
use Rattle.lookup.specs.Spread.{Going}
use Rattle.lookup.proofs.leads.Given as goal

abbrev pub invariant-loop-h : goal.invariant-loop-h
invariant-loop-h l = Going (rows_in l.rows.key l.rows.tail l.n) l.t l.q l.p l.marks l.list l.h l.len

abbrev pub decreases-loop-h : goal.decreases-loop-h
decreases-loop-h l = 256 - l.h
