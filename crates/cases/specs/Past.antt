-- The books of the cases, each given by its past: the bookings and cancellations that made it of the empty book. A past that stands the test
-- leaves a well-formed book, because each of its bookings is of the chosen plan beside the book before it.
use Rattle.std.specs.Prelude.{ℕ, ◌+◌, ◌≤◌, ◌<◌, ◌≡◌, Bool, true, ◌&&◌, List, [], ◌∷◌, leb, ltb}
use Rattle.std.proofs.Math.ListN.{length}
use Rattle.std.proofs.Common.{leb-true, ltb-true}
use Rattle.laws.specs.Tests.{and_l, and_r}
use Rattle.rules.specs.declared.Row.{Row}
use Rattle.rules.specs.declared.Book.{Book}
use Rattle.rules.specs.Limits.{day, row_limit, ticket_limit}
use Rattle.rules.specs.Map.{Yard}
use Rattle.rules.specs.Rows.{keep, insert_all}
use Rattle.rules.specs.Plan.{Stay, Permitted, arrival, run_rows}
use Rattle.rules.specs.Book.{WellFormed, book_of, other_ticket}
use Rattle.rules.specs.Chosen.{Chosen}
use Rattle.lanes.specs.Chosen.{chosen_best, no_second}
use Rattle.keeping.specs.Keeping.{empty_formed, book_keeps, cancel_keeps}
use Rattle.cases.specs.Checks.{every, holds}
use Rattle.cases.specs.Maps.{Barn, yard, barn_rules}
use Rattle.cases.specs.Barn.{plan_b, plan_chosen}

pub data Past : Type 0 where
  -- the empty book, whose next ticket is 1
  empty : Past
  -- then a run from start to dest at second s was booked, with these stays, under the next ticket
  booked : Past → (start dest s : ℕ) → List Stay → Past
  -- then a ticket was cancelled
  cancelled : Past → (ticket : ℕ) → Past

abbrev pub next_ticket : Past → ℕ
next_ticket empty = 1
next_ticket (booked h start dest s plan) = next_ticket h + 1
next_ticket (cancelled h k) = next_ticket h

abbrev pub rows_now : Past → List Row
rows_now empty = []
rows_now (booked h start dest s plan) = insert_all (run_rows (next_ticket h) plan) (rows_now h)
rows_now (cancelled h k) = keep (other_ticket k) (rows_now h)

-- in array form
abbrev pub book_now : Past → Book
book_now h = book_of (rows_now h) (next_ticket h)

module _ (G : Barn) where
  abbrev Y : Yard
  Y = yard G

  -- start and destination are places, and the second is one of the day
  abbrev pub ask_tests : ℕ → ℕ → ℕ → List Bool
  ask_tests start dest s = ltb start Y.places ∷ ltb dest Y.places ∷ leb s day ∷ []

  abbrev pub book_tests : Past → ℕ → ℕ → ℕ → List Stay → List Bool
  book_tests h start dest s plan =
      every (ask_tests start dest s) ∷ plan_b Y (rows_now h) start dest s plan ∷ ltb (next_ticket h) ticket_limit ∷ leb (length (rows_now h) + length plan) row_limit ∷ []

  unfoldable pub past_b : Past → Bool
  past_b empty = true
  past_b (booked h start dest s plan) = past_b h && every (book_tests h start dest s plan)
  past_b (cancelled h k) = past_b h

  -- the chosen plan of a request beside a past's book is permitted, none arrives sooner, and no other is chosen
  pub record Answered (h : Past) (start dest s : ℕ) (plan : List Stay) : Type 0 where
    pub chosen : Chosen Y (rows_now h) start dest s plan
    pub permitted : Permitted Y (rows_now h) start dest s plan
    pub soonest : (other : List Stay) → Permitted Y (rows_now h) start dest s other → arrival plan ≤ arrival other
    pub only : (other : List Stay) → Chosen Y (rows_now h) start dest s other → other ≡ plan

  pub answered : (h : Past) (start dest s : ℕ) (plan : List Stay) → WellFormed Y (rows_now h) (next_ticket h) → dest < Y.places → plan_b Y (rows_now h) start dest s plan ≡ true → Answered h start dest s plan
  answered h start dest s plan W on t =
      let c = plan_chosen Y (rows_now h) start dest s (barn_rules G) W.room plan t in
      let r = chosen_best Y (rows_now h) start dest s (barn_rules G).from_on on W.room c in
      record { chosen = c; permitted = r.0; soonest = r.1; only = λ other d. no_second Y (rows_now h) start dest s (barn_rules G).long d c }

  pub past_formed : (h : Past) → past_b h ≡ true → WellFormed Y (rows_now h) (next_ticket h)
  unfolding past_b
  past_formed empty t = empty_formed Y
  past_formed (booked h start dest s plan) t =
      let ts = book_tests h start dest s plan in
      let u = and_r (past_b h) (every ts) t in
      let W = past_formed h (and_l (past_b h) (every ts) t) in
      let A = answered h start dest s plan W (ltb-true dest Y.places (holds (ask_tests start dest s) (holds ts u 0) 1)) (holds ts u 1) in
      book_keeps (barn_rules G) W (ltb-true (next_ticket h) ticket_limit (holds ts u 2)) A.permitted (leb-true (length (rows_now h) + length plan) row_limit (holds ts u 3))
  past_formed (cancelled h k) t = cancel_keeps k (past_formed h t)
