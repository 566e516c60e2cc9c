-- The map: places, links, and the rules that they keep.
use Rattle.std.specs.Prelude.{ℕ, ◌≤◌, ◌<◌, ◌≡◌, Bool, false, ◌&&◌, ◌||◌, List, [], ◌∷◌, length, get_or, take, eqb}
use Rattle.rules.specs.declared.Place.{Place}
use Rattle.rules.specs.declared.Link.{Link}
use Rattle.rules.specs.declared.Map.{Map}
use Rattle.rules.specs.Limits.{place_limit, capacity_limit, duration_limit, link_limit}

-- off the map there is room for nobody
abbrev pub no_place : Place
no_place = record { capacity = 0; duration = 1 }

-- a slot that holds nothing
abbrev pub zero_place : Place
zero_place = record { capacity = 0; duration = 0 }

abbrev pub no_link : Link
no_link = record { from = 0; to = 0 }

abbrev pub place_at : List Place → ℕ → Place
place_at ps p = get_or ps p no_place

abbrev pub link_at : List Link → ℕ → Link
link_at ls i = get_or ls i no_link

-- "A wagon goes from a place only along a link."
unfoldable pub linked : List Link → ℕ → ℕ → Bool
linked [] p q = false
linked (l ∷ ls) p q = (eqb l.from p && eqb l.to q) || linked ls p q

-- what planning asks of a map
pub record Yard : Type 0 where
  pub places : ℕ
  pub cap : ℕ → ℕ
  pub dur : ℕ → ℕ
  pub link : ℕ → ℕ → Bool

abbrev pub yard_of : List Place → List Link → Yard
yard_of ps ls = record {
  places = length ps;
  cap = λ p. (place_at ps p).capacity;
  dur = λ p. (place_at ps p).duration;
  link = linked ls;
}

pub record MapRules (ps : List Place) (ls : List Link) : Type 0 where
  -- "Places are numbered 0 to n-1, n from 1 to 256."
  pub some : 1 ≤ length ps
  pub few : length ps ≤ place_limit
  -- "Each has a capacity, 1 to 16, and a duration, 1 to 3,600 seconds."
  pub cap_from : (p : ℕ) → p < length ps → 1 ≤ (place_at ps p).capacity
  pub cap_to : (p : ℕ) → p < length ps → (place_at ps p).capacity ≤ capacity_limit
  pub dur_from : (p : ℕ) → p < length ps → 1 ≤ (place_at ps p).duration
  pub dur_to : (p : ℕ) → p < length ps → (place_at ps p).duration ≤ duration_limit
  -- "Links are ordered pairs of different places, at most 1,024, none twice."
  pub few_links : length ls ≤ link_limit
  pub from_on : (i : ℕ) → i < length ls → (link_at ls i).from < length ps
  pub to_on : (i : ℕ) → i < length ls → (link_at ls i).to < length ps
  pub apart : (i : ℕ) → i < length ls → (link_at ls i).from ≡ (link_at ls i).to → ⊥
  pub once : (i j : ℕ) → i < j → j < length ls → link_at ls i ≡ link_at ls j → ⊥

-- the places and links of the array form, those that the counts name
abbrev pub places_of : Map → List Place
places_of m = take m.place_count m.places

abbrev pub links_of : Map → List Link
links_of m = take m.link_count m.links

abbrev pub map_yard : Map → Yard
map_yard m = yard_of (places_of m) (links_of m)

pub record GoodMap (m : Map) : Type 0 where
  pub places_fit : m.place_count ≤ place_limit
  pub links_fit : m.link_count ≤ link_limit
  pub rules : MapRules (places_of m) (links_of m)
