-- `frames::link_frame` meets its contract: refused once the map is closed or has 1,024 links, and otherwise kept as the next link.
use native.Mathlib.Omega.{arith}
use borrow.Author.Rules.{rules}
use Rattle.frames.specs.Frames.{link_kept}
use Rattle.frames.proofs.link_frame.Goals as goal

pub returns : goal.returns
returns c =
    link_kept c.args.s.now c.args.b.now c.put_number.ensures c.if-s.false (omega arith)

pub returns-then-s : goal.returns-then-s
returns-then-s c =
    search (c.refused.ensures c.args.s.now, rules)
