-- All stays in range as far as the list goes.
use mathlib.Core.Path.{refl}
use Rattle.bookfit.specs.Filed.{pile_start}
use Rattle.bookfit.proofs.number_rows.Goals as goal

pub loop-x-init : goal.loop-x-init
loop-x-init c =
    pile_start _ 1024 refl c.requires.rank_len
