-- Each listed row met so far that is ringed is numbered above all that follow it, since one that is not above them is looked at by itself. So no row is
-- ringed once all are passed; and one that is barred is a row of the book that goes on.
use mathlib.Core.Path.{◌≡◌, refl}
use native.Mathlib.Omega.{arith}
use Rattle.std.proofs.lemmas.List.{length-take-le}
use Rattle.laws.specs.Tests.{not_both}
use Rattle.bookfit.specs.Ring.{taken_at, unbarred_unringed}
use Rattle.bookfit.specs.Filed.{passed_next, passed_unbarred}
use Rattle.bookfit.proofs.ranks_fall.Goals as goal
use Rattle.bookfit.proofs.ranks_fall.Goals.{then-not-above_all+else-leads, else-not-above_all}

pub returns-then-leads : goal.returns-then-leads
returns-then-leads c =
    let a = c.args in
    let A = c.requires.listed in
    let j = c.loop-y.y-index in
    let t = taken_at a.list.now a.m j c.loop-y-test.true in
    let b = rw (c.next_of.ensures.0, c.place_of.ensures, c.exit_of.ensures.0) at (c.leads.ensures.0 c.if-leads.true) in (
      λ q. absurd (not_both q refl),
      λ U. absurd (unbarred_unringed a.rows.now.key a.rows.now.tail a.count U _
          (record { within = omega (arith, t.1, A.within j t.0); goes_on = rw t.1 (A.goes_on j t.0); barred = b })),
    )

pub loop-y-preserved : goal.loop-y-preserved
loop-y-preserved c =
    let a = c.args in
    let t = taken_at a.list.now a.m c.loop-y.y-index c.loop-y-test.true in
    passed_next a.rows.now.key a.rows.now.tail a.count a.list.now a.head.now a.chain.now a.rank.now c.loop-y.y-index _ t.1 c.loop-y.invariant (λ R. elim c.if-not-above_all.branch [
      | then-not-above_all+else-leads w ↦
          absurd (not_both ((rw (w.next_of.ensures.0, w.place_of.ensures, w.exit_of.ensures.0) at w.leads.ensures.1) R.barred) w.if-leads.false)
      | else-not-above_all w ↦ c.above_all.ensures w.if-not-above_all.false
    ])

pub returns : goal.returns
returns c =
    let l = c.loop-y in
    let e : l.y-index ≡ c.args.m = omega (arith, length-take-le c.args.m c.args.list.now (omega (arith, c.requires.listed.few, c.requires.listed.long, c.requires.timed.keyed.few))) in
    (λ _. passed_unbarred _ _ _ _ _ _ _ c.args.m c.requires.listed c.requires.filed (rw e at l.invariant), λ _. refl)
