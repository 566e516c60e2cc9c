-- `frames::put_line` meets its contract: behind the digits of the bytes stands a line feed.
use Rattle.frames.specs.Put.{put_line_lem}
use Rattle.frames.proofs.put_line.Goals as goal

pub returns : goal.returns
returns c =
    put_line_lem c.requires.n_in_bounds c.requires.n_in_bounds_2 c.put_digits.ensures
