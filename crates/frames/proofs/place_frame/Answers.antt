-- `frames::place_frame` meets its contract: refused once the map is closed or has 256 places, and otherwise kept as the next place.
use native.Mathlib.Omega.{arith}
use borrow.Author.Rules.{rules}
use Rattle.frames.specs.Frames.{place_kept}
use Rattle.frames.proofs.place_frame.Goals as goal

pub returns : goal.returns
returns c =
    place_kept c.args.s.now c.args.b.now c.put_number.ensures c.if-s.false c.two.ensures.0 (omega arith)

pub returns-then-s : goal.returns-then-s
returns-then-s c =
    search (c.refused.ensures c.args.s.now, rules)
