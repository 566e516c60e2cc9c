-- `frames::word_of` meets its contract: the line's bytes, if it has any, go to the decoder of their kind where their number is that kind's.
use mathlib.Core.Path.{sym}
use native.Mathlib.Omega.{arith}
use Rattle.frames.specs.Answering.{word_none, word_other, word_framed}
use Rattle.frames.proofs.word_of.Goals as goal

pub returns-in_err-b : goal.returns-in_err-b
returns-in_err-b c =
    rw c.from_residual.ensures (word_none c.in_err-b.ensures)

pub returns-in_err-form : goal.returns-in_err-form
returns-in_err-form c =
    rw c.from_residual-in_err-form.ensures (word_other {b = c.in_ok-b.b} c.in_ok-b.ensures (sym c.in_err-form.ensures) (λ some e. omega arith))

pub returns-then-form-b : goal.returns-then-form-b
returns-then-form-b c =
    word_other {b = c.in_ok-b.b} c.in_ok-b.ensures c.in_ok-form.ensures.0 (λ _. c.if-form-b.true)

pub returns : goal.returns
returns c =
    word_framed {b = c.in_ok-b.b} c.in_ok-b.ensures c.in_ok-form.ensures (omega arith)
