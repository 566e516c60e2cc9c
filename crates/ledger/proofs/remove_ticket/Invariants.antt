-- `ledger::remove_ticket` meets its contract: the rows of other tickets among the first i stand one after the other in the new array, which is empty
-- behind them; the rest of the i rows are the ticket's.
use Prim.Native.Nat.{◌≤◌}
use Rattle.rules.specs.Book.{other_ticket}
use Rattle.ledger.specs.Remove.{Kept}
use Rattle.ledger.proofs.remove_ticket.Given as goal

abbrev pub invariant-loop-i : goal.invariant-loop-i
invariant-loop-i l = record { few : l.kept ≤ l.i; rows : Kept (other_ticket l.ticket) l.b.rows l.out.rows l.kept l.i }
