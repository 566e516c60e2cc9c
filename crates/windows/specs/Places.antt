-- What finding the windows of all places asks and answers.
use Rattle.std.specs.Prelude.{ℕ, ◌≤◌, ◌<◌, ◌≡◌, List, length, Option, None, Some}
use Rattle.laws.specs.Lists.{at}
use Rattle.rules.specs.Limits.{day}
use Rattle.rules.specs.Map.{Yard}
use Rattle.rules.specs.Rows.{load}
use Rattle.lanes.specs.Nodes.{Windows}
use Rattle.flat.specs.Flat.{Of, place_of, entry_of, exit_of, rows_in, KeysRise, span_at, Grouped}

-- r is the first row from a on that is not of place p, count where there is none
pub record Past (K : List ℕ) (count a p r : ℕ) : Type 0 where
  pub from : a ≤ r
  pub to : r ≤ count
  pub same : (i : ℕ) → a ≤ i → i < r → place_of (at K i) ≡ p
  pub other : r < count → place_of (at K r) ≡ p → ⊥

-- n places with capacities C and durations D; count rows with keys K and tails X, in rising key order, each on the map and within the day
pub record Given (n count : ℕ) (C D K X : List ℕ) : Type 0 where
  pub places : n ≤ 256
  pub rows : count ≤ 1024
  pub cap_from : (p : ℕ) → p < n → 1 ≤ at C p
  pub cap_to : (p : ℕ) → p < n → at C p ≤ 16
  pub dur_from : (p : ℕ) → p < n → 1 ≤ at D p
  pub dur_to : (p : ℕ) → p < n → at D p ≤ 3600
  pub rising : KeysRise K count
  pub on_map : (i : ℕ) → i < count → place_of (at K i) < n
  pub lasts : (i : ℕ) → i < count → entry_of (at K i) < exit_of (at X i)
  pub in_day : (i : ℕ) → i < count → exit_of (at X i) ≤ day

-- r is the number of windows, None exactly where a place is overfull; S, E and P are each window's start, end and place, F each place's first window
pub record AllWindows (n count : ℕ) (C D K X : List ℕ) (r : Option ℕ) (S E P F : List ℕ) : Type 0 where
  pub bound : (w : ℕ) → r ≡ Some w → w ≤ 1280
  pub overfull : r ≡ None → (p : ℕ) × (t : ℕ) × (p < n) × (at C p < load (rows_in K X count) p t)
  pub fits : (w : ℕ) → r ≡ Some w → (p t : ℕ) → p < n → load (rows_in K X count) p t ≤ at C p
  pub windows : (w : ℕ) → r ≡ Some w → (Y : Yard) → Of Y C D n → Windows Y (rows_in K X count) w (span_at P S E)
  pub by_place : (w : ℕ) → r ≡ Some w → Grouped (at P) F n w
  pub ends_in_day : (w : ℕ) → r ≡ Some w → (i : ℕ) → i < w → at E i ≤ day
  pub len_s : length S ≡ 1280
  pub len_e : length E ≡ 1280
  pub len_p : length P ≡ 1280
  pub len_f : length F ≡ 257
