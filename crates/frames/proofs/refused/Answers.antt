-- `frames::refused` meets its contract: the line 0C, and any state as it was.
use Rattle.frames.specs.Frames.{refused_line}
use Rattle.frames.proofs.refused.Goals as goal

pub returns : goal.returns
returns c =
    λ s. refused_line s c.put_number.ensures
