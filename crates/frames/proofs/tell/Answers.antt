-- `frames::tell` meets its contract: a line that is no frame is refused, and what a decoder's own function answers is what the line answers.
use borrow.Author.Rules.{rules}
use Rattle.frames.proofs.tell.Goals as goal

pub returns-in_default : goal.returns-in_default
returns-in_default c =
    search (c.refused.ensures c.args.s.now, rules)
