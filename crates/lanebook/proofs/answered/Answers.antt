-- `lanebook::answered`: each turn takes the bytes on from where the last one stopped.
use Rattle.lanebook.specs.Turns.{taking_start, taking_next}
use Rattle.lanebook.proofs.answered.Goals as goal

pub loop-i-init : goal.loop-i-init
loop-i-init g c = taking_start _ _

pub loop-i-preserved : goal.loop-i-preserved
loop-i-preserved g c = taking_next c.loop-i.invariant c.fed-f.ensures
