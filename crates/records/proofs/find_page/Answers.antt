-- `records::find_page` meets its contract: the page is asked for with the front of a list of 1,280 packed rows, and its rows are read back from there.
use mathlib.Core.List.{List}
use Prim.Native.Nat.{ℕ}
use mathlib.Core.Path.{◌≡◌, refl, sym}
use Rattle.std.proofs.Common.{subst}
use lib.ListN.{length, replicate, length-replicate}
use Rattle.rules.specs.Rows.{cursor_key}
use Rattle.rules.specs.Bytes.{list_size}
use Rattle.records.specs.Found.{PageFound, page_readable, page_front}
use Rattle.records.proofs.find_page.Goals as goal

abbrev list : List ℕ
list = replicate list_size 0

long : length list ≡ list_size
long = length-replicate {A = ℕ} list_size 0

pub read_answer-requires : goal.read_answer-requires
read_answer-requires c = (page_readable c.lent-n.ensures list long c.page-a.ensures refl c.page-a.auto.out).0

pub returns : goal.returns
returns c =
    let r = c.read_answer.result in
    let e = c.read_answer.ensures in
    subst (PageFound c.args.m c.args.b c.args.size (cursor_key c.args.c) c.args.room) (λ i. record { rows = r.rows; count = r.count; answer = sym e.1 i }) (page_front c.lent-n.ensures list long c.page-a.ensures e.0 e.2)
