-- `ledger::remove_ticket` meets its contract: the rows of other tickets among the first i stand one after the other in the new array, which is empty
-- behind them; the rest of the i rows are the ticket's.
use Prim.Native.Nat.{◌<◌}
use mathlib.Core.Path.{◌≡◌, ap}
use mathlib.Core.Bool.{not}
use native.Mathlib.Omega.{arith}
use lib.ListN.{length}
use borrow.Author.Rules.{rules}
use borrow.Author.Tests.{eq-eqb, ne_eqb}
use Rattle.rules.specs.declared.Book.{Book}
use Rattle.rules.specs.Book.{other_ticket}
use Rattle.ledger.specs.Lists.{unmapped}
use Rattle.ledger.specs.Remove.{Kept, kept_next, kept_same, kept_book, kept_count}
use Rattle.ledger.proofs.remove_ticket.Goals as goal
use Rattle.ledger.proofs.remove_ticket.Goals.{then-x-ticket, else-x-ticket}

pub loop-i-preserved : goal.loop-i-preserved
loop-i-preserved c =
    let F = other_ticket c.args.ticket in
    let K = c.loop-i.invariant.rows in
    let n : length c.args.b.rows ≡ 1024 = search (unmapped, rules) in
    let h : c.loop-i.i < length c.args.b.rows = omega (arith, n) in
    elim c.if-x-ticket.branch [
      | then-x-ticket w ↦ record {
        few = omega (arith, w.kept-is);
        rows = kept_next F K h (omega arith) (ap not (ne_eqb _ _ w.if-x-ticket.true)) (ap (λ (x : Book). x.rows) w.out-is) w.kept-is;
      }
      | else-x-ticket w ↦ record {
        few = omega (arith, w.kept-is);
        rows = kept_same F K h (ap not (eq-eqb _ _ w.if-x-ticket.false)) (ap (λ (x : Book). x.rows) w.out-is) w.kept-is;
      }
    ]

pub returns : goal.returns
returns c =
    let b = c.args.b in
    let n : length b.rows ≡ 1024 = search (unmapped, rules) in
    let all : c.loop-i.i ≡ b.count = omega arith in
    let K : Kept (other_ticket c.args.ticket) b.rows c.loop-i.out.rows c.loop-i.kept b.count = rw all at c.loop-i.invariant.rows in
    (kept_book c.args.ticket b c.loop-i.out c.loop-i.kept n c.requires K, kept_count c.args.ticket b c.loop-i.out c.loop-i.kept n c.requires K)
