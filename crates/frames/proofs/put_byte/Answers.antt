-- `frames::put_byte` meets its contract: two stores side by side, of the digits of the byte's two halves.
use Rattle.frames.specs.Put.{put_byte}
use Rattle.frames.proofs.put_byte.Goals as goal

pub returns : goal.returns
returns c =
    rw (c.digit_of.ensures, c.digit_of-2.ensures) (put_byte c.args.x c.args.out.now c.args.at c.requires)
