-- `lookup::exit_among` meets its contract: what is folded is false only where none of the rows passed exits at t.
use Rattle.std.proofs.Common.{rules, arith, ◌≡◌, ◌-◌, ◌==◌, ◌||◌, take, drop, subst}
use Rattle.std.proofs.lemmas.Fn.{fold_over, slice_gives, fronts}
use Rattle.flat.specs.Flat.{exit_of}
use Rattle.lookup.specs.Crossings.{NoneYet, none_next, none_all}
use Rattle.lookup.proofs.exit_among.Goals as goal

pub returns : goal.returns
returns c =
    let a = c.args in
    let folded : NoneYet a.t (take (a.b - a.a) (drop a.a a.tail.now)) c.fold.result =
    subst (λ l. NoneYet a.t l c.fold.result) c.iter.ensures.rest
    (fold_over fronts (λ y. y.now) _ (λ ws any. NoneYet a.t ws any) _
    (λ ws any w now f j k. let e : now ≡ (any || (exit_of w.now == a.t)) = search rules in (none_next a.t w.now ws any j e, search rules))
    _ _ _ _ (slice_gives c.iter.result) (λ z k d h. absurd (omega arith)) c.fold.ensures.ran) in
    none_all a.tail.now a.a a.b a.t (omega arith) folded
