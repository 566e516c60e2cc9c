-- `search::trail` meets its contract, by recursion along the windows before. A trail has fewer windows than there are labels below its last one's,
-- with that one, so the path holds it.
use Rattle.std.proofs.Common.{arith}
use Rattle.search.specs.Trail.{trailed_root, rooted_trail}
use Rattle.search.proofs.+trail.Goals as goal

pub returns-then-v-eq0 : goal.returns-then-v-eq0
returns-then-v-eq0 t c = trailed_root c.args.label.now c.args.path.now c.if-v-eq0.true c.requires.path_len

pub returns : goal.returns
returns t c = rooted_trail c.requires.rooted (omega arith) c.trail-k.ensures
