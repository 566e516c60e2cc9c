-- `wire::put_at` meets its contract: the row is written over the front of the part that begins with record j, and the part is put back.
use Rattle.wire.specs.Written.{put_at_is}
use borrow.Author.Rules.{rules}
use Rattle.wire.proofs.put_at.Goals as goal

pub returns : goal.returns
returns c =
    put_at_is c.args.r c.args.j c.args.out.now c.put_row.new.s c.requires c.put_row.ensures (search rules)
