-- `mapfit::map_fits` meets its contract: each early answer is a rule that the map breaks, and the last call decides the one rule that is left.
-- The lists of links are made before it, for that call and for the caller.
use native.Mathlib.Omega.{arith}
use Rattle.laws.specs.Tests.{not_both}
use Rattle.mapfit.specs.Fits.{refused, rules_some, rules_few, rules_few_links, bad_place, bad_link, answered}
use Rattle.mapfit.proofs.map_fits.Goals as goal
use Rattle.mapfit.proofs.map_fits.Goals.{then-yard-lt1-via-then-yard-lt1, then-yard-lt1-via-else-yard-lt1+then-yard-gt-PLACES, then-yard-lt1-via-else-yard-lt1+else-yard-gt-PLACES+then-yard-gt-LINKS}
use Rattle.mapfit.proofs.map_fits.Goals.{then-not-places_fit-via-then-not-places_fit, then-not-places_fit-via-else-not-places_fit+then-not-links_fit}

pub returns-then-yard-lt1 : goal.returns-then-yard-lt1
returns-then-yard-lt1 c =
    refused c.requires.head_len c.requires.chain_len (λ M. elim c.then-yard-lt1.branch [
      | then-yard-lt1-via-then-yard-lt1 w ↦ omega (arith, rules_some _ _ _ _ _ _ M)
      | then-yard-lt1-via-else-yard-lt1+then-yard-gt-PLACES w ↦ omega (arith, rules_few _ _ _ _ _ _ M)
      | then-yard-lt1-via-else-yard-lt1+else-yard-gt-PLACES+then-yard-gt-LINKS w ↦ omega (arith, rules_few_links _ _ _ _ _ _ M)
    ])

pub returns-then-not-places_fit : goal.returns-then-not-places_fit
returns-then-not-places_fit c =
    let h = c.requires.head_len in
    let n = c.requires.chain_len in
    elim c.then-not-places_fit.branch [
      | then-not-places_fit-via-then-not-places_fit w ↦ bad_place h n (λ P. not_both (c.places_fit.ensures.1 P) w.if-not-places_fit.true)
      | then-not-places_fit-via-else-not-places_fit+then-not-links_fit w ↦ bad_link h n (λ L. not_both (w.links_fit.ensures.1 L) w.if-not-links_fit.true)
    ]

pub returns : goal.returns
returns c =
    let P = c.places_fit.ensures.0 c.if-not-places_fit.false in
    let L = c.links_fit.ensures.0 c.if-not-links_fit.false in
    let K = c.chain_links.ensures in
    answered K.len_head K.len_chain (omega arith) (omega arith) (omega arith) P L K.lists c.links_once.ensures
