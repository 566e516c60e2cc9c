-- The rules of a map as one test: each rule is tried for every place, link or pair of links. A barn is a map that stands the test.
use Rattle.std.specs.Prelude.{ℕ, ◌-◌, ◌<◌, ◌≡◌, Bool, true, ◌&&◌, not, List, [], ◌∷◌, ◌++◌, length, replicate, eqb, leb, ltb}
use Rattle.std.proofs.Common.{sym, ap, ap₂, subst₂, leb-true, ltb-true, eq-eqb}
use Rattle.std.proofs.Math.Seq.{take-append_seam}
use Rattle.std.proofs.lemmas.Bool.{eqb-false, not-true}
use Rattle.laws.specs.Tests.{not_both, and_in}
use Rattle.rules.specs.declared.Place.{Place}
use Rattle.rules.specs.declared.Link.{Link}
use Rattle.rules.specs.declared.Map.{Map}
use Rattle.rules.specs.Limits.{place_limit, capacity_limit, duration_limit, link_limit}
use Rattle.rules.specs.Map.{Yard, yard_of, zero_place, no_link, place_at, link_at, MapRules, places_of, links_of, map_yard, GoodMap}
use Rattle.lanes.specs.Yards.{YardRules, yard_rules}
use Rattle.cases.specs.Checks.{every, holds}
use Rattle.cases.specs.Entries.{all_below, below_out}

module _ (ps : List Place) (ls : List Link) where
  abbrev place_tests : ℕ → List Bool
  place_tests p =
      leb 1 (place_at ps p).capacity ∷ leb (place_at ps p).capacity capacity_limit ∷ leb 1 (place_at ps p).duration ∷ leb (place_at ps p).duration duration_limit ∷ []

  abbrev link_tests : ℕ → List Bool
  link_tests i = ltb (link_at ls i).from (length ps) ∷ ltb (link_at ls i).to (length ps) ∷ not (eqb (link_at ls i).from (link_at ls i).to) ∷ []

  abbrev apart_b : ℕ → ℕ → Bool
  apart_b j i = not (eqb (link_at ls i).from (link_at ls j).from && eqb (link_at ls i).to (link_at ls j).to)

  abbrev map_tests : List Bool
  map_tests =
      leb 1 (length ps) ∷ leb (length ps) place_limit ∷ leb (length ls) link_limit ∷ all_below (length ps) (λ p. every (place_tests p))
      ∷ all_below (length ls) (λ i. every (link_tests i)) ∷ all_below (length ls) (λ j. all_below j (apart_b j)) ∷ []

  abbrev pub map_b : Bool
  map_b = every map_tests

  pub map_rules : map_b ≡ true → MapRules ps ls
  map_rules t =
      let place : (p : ℕ) → p < length ps → every (place_tests p) ≡ true = below_out (length ps) (λ p. every (place_tests p)) (holds map_tests t 3) in
      let link : (i : ℕ) → i < length ls → every (link_tests i) ≡ true = below_out (length ls) (λ i. every (link_tests i)) (holds map_tests t 4) in
      record {
        some = leb-true 1 (length ps) (holds map_tests t 0);
        few = leb-true (length ps) place_limit (holds map_tests t 1);
        cap_from = λ p h. leb-true 1 (place_at ps p).capacity (holds (place_tests p) (place p h) 0);
        cap_to = λ p h. leb-true (place_at ps p).capacity capacity_limit (holds (place_tests p) (place p h) 1);
        dur_from = λ p h. leb-true 1 (place_at ps p).duration (holds (place_tests p) (place p h) 2);
        dur_to = λ p h. leb-true (place_at ps p).duration duration_limit (holds (place_tests p) (place p h) 3);
        few_links = leb-true (length ls) link_limit (holds map_tests t 2);
        from_on = λ i h. ltb-true (link_at ls i).from (length ps) (holds (link_tests i) (link i h) 0);
        to_on = λ i h. ltb-true (link_at ls i).to (length ps) (holds (link_tests i) (link i h) 1);
        apart = λ i h. eqb-false (link_at ls i).from (link_at ls i).to (not-true (eqb (link_at ls i).from (link_at ls i).to) (holds (link_tests i) (link i h) 2));
        once = λ i j h k e.
            let x = below_out j (apart_b j) (below_out (length ls) (λ j. all_below j (apart_b j)) (holds map_tests t 5) j k) i h in
            let y = and_in (eq-eqb (link_at ls i).from (link_at ls j).from (ap (λ (l : Link). l.from) e)) (eq-eqb (link_at ls i).to (link_at ls j).to (ap (λ (l : Link). l.to) e)) in
            not_both y (not-true (eqb (link_at ls i).from (link_at ls j).from && eqb (link_at ls i).to (link_at ls j).to) x);
      }

-- places, each with its capacity and its duration, and links
abbrev pub place : ℕ → ℕ → Place
place c d = record { capacity = c; duration = d }

abbrev pub link : ℕ → ℕ → Link
link p q = record { from = p; to = q }

pub record Barn : Type 0 where
  pub places : List Place
  pub links : List Link
  pub tested : map_b places links ≡ true

module _ (G : Barn) where
  abbrev pub yard : Yard
  yard = yard_of G.places G.links

  -- in array form
  abbrev pub arrays : Map
  arrays = record {
    places = G.places ++ replicate (place_limit - length G.places) zero_place;
    links = G.links ++ replicate (link_limit - length G.links) no_link;
    place_count = length G.places;
    link_count = length G.links;
  }

  rules : MapRules G.places G.links
  rules = map_rules G.places G.links G.tested

  pub barn_rules : YardRules yard
  barn_rules = yard_rules rules

  arrays_places : places_of arrays ≡ G.places
  arrays_places = take-append_seam G.places _

  arrays_links : links_of arrays ≡ G.links
  arrays_links = take-append_seam G.links _

  pub arrays_yard : map_yard arrays ≡ yard
  arrays_yard = ap₂ yard_of arrays_places arrays_links

  pub barn_good : GoodMap arrays
  barn_good = record { places_fit = rules.few; links_fit = rules.few_links; rules = subst₂ MapRules (sym arrays_places) (sym arrays_links) rules }
