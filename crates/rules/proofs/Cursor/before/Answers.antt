-- `rules::Cursor::before` meets its contract: the derived order of cursors is the order of keys.
use Rattle.rules.proofs.Order.{ordered}
use Rattle.rules.proofs.Cursor.before.Goals as goal

pub returns : goal.returns
returns c = rw c.lt.ensures (rw (ordered c.args.self c.from.result, c.from.ensures))
