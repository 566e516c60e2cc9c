-- "each with its earliest entry": asked for a place that is not on the map, the search runs to its end, and leaves to every window its earliest entry or
-- the mark.
use Rattle.std.specs.Prelude.{ℕ, ◌+◌, ◌≤◌, ◌<◌, ◌≡◌, ◌⊎◌, Option, Some, None, List}
use Rattle.std.proofs.Common.{arith, eqb-true}
use Rattle.laws.specs.Lists.{at}
use Rattle.rules.specs.declared.Row.{Row}
use Rattle.rules.specs.Rows.{load}
use Rattle.rules.specs.Map.{Yard}
use Rattle.rules.specs.Window.{Span, Enters, Earliest}
use Rattle.lanes.specs.Yards.{yard_rules}
use Rattle.lanes.specs.Entries.{known_entries, entry_or_mark}
use Rattle.flat.specs.Flat.{yard_in, span_at}
use Rattle.flat.specs.Links.{group_place}
use Rattle.settle.specs.Search.{Answer}
use Rattle.search.specs.Offers.{BeginsAt}
use Rattle.search.specs.Relax.{next_by}
use Rattle.search.specs.Lanes.{Lanes, is_at_dest}
use Rattle.planner.specs.Choice.{src_in, src_place, src_enter}

pub every_window : {C D F T H N : List ℕ} {n k : ℕ} {rows : List Row} {c : ℕ} {P S E I : List ℕ} {m : ℕ} (L : Lanes C D F T H N n k rows c P S E I m)
    → ((p t : ℕ) → p < (yard_in C D n F T k).places → load rows p t ≤ (yard_in C D n F T k).cap p) → (start s nowhere : ℕ) → start < n → n ≤ nowhere
    → {src : ℕ} → s ≤ 86400 → BeginsAt S E (at I start) (at I (start + 1)) s (at D start) (Some src)
    → (lab bef : List ℕ) (r : Option ℕ) → Answer m (next_by (yard_in C D n F T k) rows P S E) (is_at_dest P nowhere) src s lab bef r
    → (i : ℕ) → i < m
    → Earliest (yard_in C D n F T k) rows start s (span_at P S E i) (at lab i)
    ⊎ ((at lab i ≡ 86401) × ((t : ℕ) → Enters (yard_in C D n F T k) rows start s (span_at P S E i) t → ⊥))
every_window {C} {D} {F} {T} {n = n} {k = k} {rows = rows} {P = P} {S = S} {E = E} {m = m} L booked start s nowhere on off {src = src} s-in B lab bef None A =
    entry_or_mark Y rows start s m win {label = at lab}
    (known_entries Y rows start s m win L.windows (yard_rules L.rules) booked src (src_in L booked start start s on on s-in B) (src_enter L booked start start s on on s-in B) (src_place L booked start start s on on s-in B) A.known_all)
    (λ i h. A.marked i)
  where
    Y : Yard
    Y = yard_in C D n F T k

    win : ℕ → Span
    win = span_at P S E
-- no window is one of a place that there is not
every_window {P = P} L booked start s nowhere on off s-in B lab bef (Some r) A =
    absurd (omega (arith, eqb-true (at P r) nowhere A.sought.wanted, group_place L.by_place r A.sought.within))
