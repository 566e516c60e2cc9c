-- `settle::offer` meets its contract: a sooner entry is taken, with its block's least where it is lower; any other leaves all as it was.
use Rattle.std.proofs.Common.{◌/◌, arith}
use Rattle.settle.specs.Blocks.{offer_took, blocks_lower, blocks_same}
use Rattle.settle.proofs.offer.Goals as goal

pub returns-then-t-least : goal.returns-then-t-least
returns-then-t-least c =
    (offer_took _ _ _ _ _ _ (omega arith), blocks_lower c.requires.blocks c.args.v (c.args.v / 32) c.args.t (omega arith) (omega arith) (omega arith) (omega arith) (omega arith) c.if-t-least.true)

pub returns-else-t-least : goal.returns-else-t-least
returns-else-t-least c =
    (offer_took _ _ _ _ _ _ (omega arith), blocks_same c.requires.blocks c.args.v (c.args.v / 32) c.args.t (omega arith) (omega arith) (omega arith) (omega arith) (omega arith) c.if-t-least.false)
