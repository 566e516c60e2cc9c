-- The cursor after some rows is the last one's key: of no rows it is the cursor given.
use mathlib.Core.Path.{◌∙◌}
use Rattle.rules.specs.Rows.{cursor_key}
use Rattle.pages.specs.Shown.{last_none, last_some}
use Rattle.pages.proofs.cursor_after.Goals as goal

pub returns-then-n-eq0 : goal.returns-then-n-eq0
returns-then-n-eq0 c =
    let a = c.args in
    last_none a.rows.now.key a.rows.now.tail a.from a.n (cursor_key a.c) c.if-n-eq0.true

pub returns : goal.returns
returns c =
    let a = c.args in
    c.moved.ensures
    ∙ last_some a.rows.now.key a.rows.now.tail a.from a.n (cursor_key a.c) c.if-n-eq0.false c.row_at-last.ensures
