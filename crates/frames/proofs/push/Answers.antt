-- `frames::push` meets its contract: a byte past the 18th makes the line too long, and any other is stored behind those there are.
use native.Mathlib.Omega.{arith}
use borrow.Author.Rules.{rules}
use Rattle.frames.specs.Lines.{pushed_short, pushed_full, push_short, push_full}
use Rattle.frames.proofs.push.Goals as goal

pub returns-then-l-ge18 : goal.returns-then-l-ge18
returns-then-l-ge18 c =
    (pushed_full c.args.l c.args.c (omega arith), push_full c.args.l c.args.c (search rules) (omega arith))

pub returns : goal.returns
returns c =
    (pushed_short c.args.l c.args.c (omega arith), push_short c.args.l c.args.c (search rules) (omega arith))
