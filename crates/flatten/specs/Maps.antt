-- A map's places and links as arrays of numbers. The entries at an index are those of the map, so that the lists which the arrays stand for are the
-- map's, and its rules can be tested on the arrays.
use Rattle.std.specs.Prelude.{ℕ, ◌≤◌, ◌<◌, ◌≡◌, List, length}
use Rattle.std.proofs.Common.{sym, ap₂, subst₂, arith}
use Rattle.laws.specs.Lists.{at}
use Rattle.rules.specs.declared.Map.{Map}
use Rattle.rules.specs.Limits.{place_limit, link_limit}
use Rattle.rules.specs.Map.{yard_of, MapRules, no_place, place_at, no_link, link_at, places_of, links_of, map_yard, GoodMap}
use Rattle.flat.specs.Flat.{one_place, places_in, one_link, links_in, yard_in}
use Rattle.flat.specs.Laws.{places_long, links_long}
use Rattle.flatten.specs.Lists.{table_take}

-- the first n places of the map stand in the arrays
pub record PlacesTo (m : Map) (C D : List ℕ) (n : ℕ) : Type 0 where
  pub caps : (p : ℕ) → p < n → at C p ≡ (place_at m.places p).capacity
  pub durs : (p : ℕ) → p < n → at D p ≡ (place_at m.places p).duration
  pub len_cap : length C ≡ 256
  pub len_dur : length D ≡ 256

abbrev pub PlacesFlat : Map → List ℕ → List ℕ → Type 0
PlacesFlat m C D = PlacesTo m C D 256

-- the first n links of the map stand in the arrays
pub record LinksTo (m : Map) (F T : List ℕ) (n : ℕ) : Type 0 where
  pub froms : (j : ℕ) → j < n → at F j ≡ (link_at m.links j).from
  pub tos : (j : ℕ) → j < n → at T j ≡ (link_at m.links j).to
  pub len_from : length F ≡ 1024
  pub len_to : length T ≡ 1024

abbrev pub LinksFlat : Map → List ℕ → List ℕ → Type 0
LinksFlat m F T = LinksTo m F T 1024

-- ---- the arrays stand for the map

module _ {m : Map} {C D F T : List ℕ} (P : PlacesFlat m C D) (L : LinksFlat m F T) (lp : length m.places ≡ 256) (ll : length m.links ≡ 1024) where
  pub places_same : m.place_count ≤ place_limit → places_in C D m.place_count ≡ places_of m
  places_same h =
      table_take m.place_count (one_place C D) m.places no_place (omega arith)
      (λ p k. let g : p < 256 = omega arith in λ x. record { capacity = P.caps p g x; duration = P.durs p g x })

  pub links_same : m.link_count ≤ link_limit → links_in F T m.link_count ≡ links_of m
  links_same h =
      table_take m.link_count (one_link F T) m.links no_link (omega arith)
      (λ j k. let g : j < 1024 = omega arith in λ x. record { from = L.froms j g x; to = L.tos j g x })

  -- the arrays keep the rules exactly when the map is good
  pub good_flat : GoodMap m → MapRules (places_in C D m.place_count) (links_in F T m.link_count)
  good_flat G = subst₂ MapRules (sym (places_same G.places_fit)) (sym (links_same G.links_fit)) G.rules

  pub flat_good : MapRules (places_in C D m.place_count) (links_in F T m.link_count) → GoodMap m
  flat_good M =
      let a : m.place_count ≤ place_limit = omega (arith, M.few, places_long C D m.place_count) in
      let b : m.link_count ≤ link_limit = omega (arith, M.few_links, links_long F T m.link_count) in
      record { places_fit = a; links_fit = b; rules = subst₂ MapRules (places_same a) (links_same b) M }

  pub yard_same : GoodMap m → yard_in C D m.place_count F T m.link_count ≡ map_yard m
  yard_same G = ap₂ yard_of (places_same G.places_fit) (links_same G.links_fit)
