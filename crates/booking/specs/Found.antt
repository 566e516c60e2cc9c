-- What a search on a good book found: the chosen plan, which is permitted, and whose rows under the next ticket can be put in. The ticket is in no
-- booked row and the plan's entries rise, so that the rows' keys are new and all different.
use Rattle.std.specs.Prelude.{ℕ, ◌+◌, ◌≤◌, ◌<◌, ◌≡◌, Some, None, take}
use Rattle.std.proofs.Common.{sym, ap, subst, ◌∙◌, arith}
use mathlib.Core.List.{List, Memᴰ}
use Rattle.rules.specs.declared.Row.{Row}
use Rattle.rules.specs.declared.Book.{Book}
use Rattle.rules.specs.Map.{Yard}
use Rattle.rules.specs.Rows.{Key, load}
use Rattle.rules.specs.Plan.{Stay, Plan, Permitted, run_rows}
use Rattle.rules.specs.Book.{WellFormed, rows_of}
use Rattle.rules.specs.Chosen.{Chosen}
use Rattle.lanes.specs.Yards.{YardRules, yard_rules}
use Rattle.lanes.specs.Chosen.{chosen_best}
use Rattle.flat.specs.Flat.{rows_in, yard_in}
use Rattle.search.specs.Lanes.{lanes_ground}
use Rattle.planner.specs.Choice.{plan_of}
use Rattle.planner.specs.Route.{Routed, PathFits, path_rows}
use Rattle.keeping.specs.Changes.{AllNew}
use Rattle.keeping.specs.Runs.{run_ticket, run_apart}
use Rattle.keeping.specs.Keeping.{row_ranges}
use Rattle.ledger.specs.Inserting.{Inserting, inserted_start}
use Rattle.desk.specs.Planning.{route_fits}
use Rattle.booking.specs.Survey.{Ready}

module _ {Y : Yard} (rules : YardRules Y) {rows : List Row} {t : ℕ} (W : WellFormed Y rows t) {plan : List Stay} (P : Plan Y plan) where
  -- no booked row has the next ticket
  other : (r : Row) → Memᴰ r rows → r.ticket ≡ t → ⊥
  other r m e = omega (arith, (row_ranges W r m).ticket_to)

  new_keys : AllNew (run_rows t plan) rows
  new_keys = record {
    fresh = λ x m y d e. other y d (ap (λ (k : Key). k.ticket) e ∙ run_ticket t plan x m);
    apart = run_apart t rules plan P;
  }

module _ {b : Book} {C D F T H L : List ℕ} {n k : ℕ} {K X : List ℕ} {count : ℕ} {P S E I : List ℕ} {m : ℕ} (Q : Ready b C D F T H L n k K X count P S E I m) where
  abbrev Y : Yard
  Y = yard_in C D n F T k

  rules : YardRules Y
  rules = yard_rules Q.lanes.rules

  -- what the search asks of the rows in the arrays
  pub room_there : (p t : ℕ) → p < Y.places → load (rows_in K X count) p t ≤ Y.cap p
  room_there p t h = subst (λ (rows : List Row). load rows p t ≤ Y.cap p) (sym Q.rows) (Q.formed.room p t h)

  module _ {start dest s : ℕ} {lab path : List ℕ} where
    pub none_found : Routed Y (rows_in K X count) start dest s m D P S E lab path None → (other : List Stay) → Permitted Y (rows_of b) start dest s other → ⊥
    none_found R other A = R.none other (subst (λ (rows : List Row). Permitted Y rows start dest s other) (sym Q.rows) A)

    module _ {r : ℕ} (R : Routed Y (rows_in K X count) start dest s m D P S E lab path (Some r)) where
      abbrev plan : List Stay
      plan = plan_of D P lab (take r path)

      pub found_fits : PathFits D P lab path r
      found_fits = route_fits (lanes_ground Q.lanes) R

      pub found_chosen : Chosen Y (rows_of b) start dest s (plan_of D P lab (take r path))
      found_chosen = subst (λ (rows : List Row). Chosen Y rows start dest s plan) Q.rows R.chosen

      module _ (on : dest < Y.places) where
        pub found_permitted : Permitted Y (rows_of b) start dest s (plan_of D P lab (take r path))
        found_permitted = (chosen_best Y (rows_of b) start dest s rules.from_on on Q.formed.room found_chosen).0

        pub found_enters : b.count + r ≤ 1024 → Inserting (run_rows b.next_ticket (plan_of D P lab (take r path))) (rows_of b) b.next_ticket 0 b
        found_enters fits =
            inserted_start Q.whole Q.formed.rising (new_keys rules Q.formed found_permitted.run)
            (omega (arith, ap (λ (x : Book). x.count) Q.whole, path_rows D P lab path r b.next_ticket found_fits))
