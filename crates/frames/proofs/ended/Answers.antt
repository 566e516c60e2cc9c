-- `frames::ended` meets its contract: a line feed more ends the line that is begun, and no line is begun where the buffer is empty.
use Prim.Native.Nat.{◌≤◌, ◌<◌}
use mathlib.Core.Path.{◌≡◌}
use mathlib.Core.Logic.{inl, inr, ⊎_elim}
use native.Mathlib.Omega.{arith}
use lib.ListN.{length}
use borrow.Author.Rules.{rules}
use Rattle.laws.specs.Order.{lt_or_ge}
use Rattle.rules.specs.Bytes.{answer_room}
use Rattle.frames.specs.Told.{silent}
use Rattle.frames.specs.Cutting.{nothing_begun, fed_silent, fed_ended}
use Rattle.frames.proofs.ended.Goals as goal

pub returns-then-d-eq0 : goal.returns-then-d-eq0
returns-then-d-eq0 c =
    let a = c.args in
    ⊎_elim
    (λ (h : length a.out.now < answer_room). inl ((λ k. omega arith), silent _ _))
    (λ (h : answer_room ≤ length a.out.now). inr (h, nothing_begun a.d a.out.now c.if-d-eq0.true))
    (lt_or_ge (length a.out.now) answer_room)

pub returns : goal.returns
returns c =
    let a = c.args in
    let f = c.fed-f.ensures in
    let n : length a.d.line.digits ≡ 18 = search (c.well_formed.0.1.1.1.0, rules) in
    ⊎_elim
    (λ (h : length a.out.now < answer_room). inl ((λ k. omega arith), fed_silent a.d f h))
    (λ (h : answer_room ≤ length a.out.now). inr (h, fed_ended a.d f h n c.if-d-eq0.false))
    (lt_or_ge (length a.out.now) answer_room)
