-- A page is as demanded: the rows from the first above the cursor on are those above it, as many are copied as are asked for and there,
-- and the cursor handed back is the last copied row's key.
use mathlib.Core.Path.{refl}
use Rattle.rules.specs.Rows.{cursor_key}
use Rattle.pages.specs.Shown.{page_done}
use Rattle.pages.proofs.page_of.Goals as goal

pub returns : goal.returns
returns c =
    let a = c.args in
    page_done a.rows.now.key a.rows.now.tail a.rows.now.count (cursor_key a.c) c.first_after-first.ensures.first a.size a.out.now c.copy_rows.new.out _
    c.min-n.ensures refl c.cursor_after-cursor.ensures c.copy_rows.ensures
