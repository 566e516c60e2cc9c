-- `mapfit::chain_links` meets its contract: a link goes to the front of its place's list, whose old front it then points to. After j turns the lists
-- hold the first j links, so after k turns all of them.
use native.Mathlib.Omega.{arith}
use Rattle.mapfit.specs.Walk.{linking_first, linking_turn}
use Rattle.mapfit.proofs.chain_links.Goals as goal

pub loop-j-init : goal.loop-j-init
loop-j-init c =
    linking_first _ _ _ c.requires.head_len c.requires.chain_len c.requires.by_index

pub loop-j-preserved : goal.loop-j-preserved
loop-j-preserved c =
    linking_turn _ _ _ _ _ c.loop-j.invariant (omega arith) (omega arith) (omega arith)
