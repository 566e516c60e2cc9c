-- `paging::page_flat` meets its contract: what vetting refuses is refused, and of a sound book, whose keys rise, a page is shown.
use mathlib.Core.Path.{refl}
use native.Mathlib.Omega.{arith}
use Rattle.std.proofs.Common.{rules}
use Rattle.std.proofs.lemmas.Result.{err_from_is_err_and}
use Rattle.rules.specs.Gate.{BookGood}
use Rattle.rules.specs.Gate.Checked.{sound}
use Rattle.flat.specs.Flat.{yard_in, papers_held}
use Rattle.flat.specs.Laws.{places_long, rows_long, blank}
use Rattle.lookup.specs.Order.{rising_keys}
use Rattle.vet.specs.Vetted.{vetted_refused, vetted_sound}
use Rattle.paging.specs.Ends.{page_refused}
use Rattle.paging.proofs.page_flat.Goals as goal
use Rattle.paging.proofs.page_flat.Goals.{In_ok-vetted}

pub vet-vetted-requires-clause-by_index : goal.vet-vetted-requires-clause-by_index
vet-vetted-requires-clause-by_index c = blank (λ x e. e) c.default-ways.ensures.0

pub returns-in_err-vetted : goal.returns-in_err-vetted
returns-in_err-vetted c =
    let p = err_from_is_err_and c.from_residual.result c.from_residual.ensures.1 in
    rw (p.1, p.2) (vetted_refused c.vet-vetted.ensures (search rules) (page_refused refl))

-- past vetting, map and book are good
good : (c : In_ok-vetted) → (papers_held c.args.yard.now c.args.rows.now).map_good × BookGood (papers_held c.args.yard.now c.args.rows.now)
good c = let s = vetted_sound {w = c.in_ok-vetted.field-0} c.vet-vetted.ensures (search rules) in (s.0, s.1)

pub page_sound-requires : goal.page_sound-requires
page_sound-requires c =
    let a = c.args in
    let F = (good (goal.at.page_sound-requires c).In_ok-vetted).1 in
    record { count_bound = omega (arith, F.counted.few, rows_long a.rows.now.key a.rows.now.tail a.rows.now.count); keys_rise = rising_keys a.rows.now.key a.rows.now.tail a.rows.now.count F.rising; packed = c.requires }

pub returns : goal.returns
returns c =
    let a = c.args in
    let S = good (goal.at.returns c).In_ok-vetted in
    sound S.0 S.1
    (c.page_sound.ensures (yard_in a.yard.now.cap a.yard.now.dur a.yard.now.places a.yard.now.from a.yard.now.to a.yard.now.links) (places_long a.yard.now.cap a.yard.now.dur a.yard.now.places))
