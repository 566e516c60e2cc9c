-- What is proved: each demand as a theorem about the calls' own contracts (rules/specs/Answer.antt). Open this file first.
-- That the calls meet these contracts, take every input and end is proved where they stand: crates/planning, booking, paging, records, portal, frames.
-- Free windows are exactly those of the rules by `AllWindows` (windows/specs/Places.antt); that each window's label is its earliest entry, or the mark,
-- is `every_window` (Entries.antt beside this file) of a search that is let run to its end, `every_entry` and `sooner_entry` (planner/specs/Route.antt) of one for a plan.
use Rattle.std.specs.Prelude.{ℕ, suc, ◌+◌, ◌≤◌, ◌<◌, ◌≡◌, ◌⊎◌, Bool, true, length}
use Rattle.std.proofs.Common.{sym, ap, subst, ◌∙◌, inl, inr, ⊎_elim, arith}
use mathlib.Core.List.{List, [], ◌∷◌, ◌++◌, Memᴰ}
use Rattle.rules.specs.declared.Map.{Map}
use Rattle.rules.specs.declared.Book.{Book}
use Rattle.rules.specs.declared.Row.{Row}
use Rattle.rules.specs.declared.State.{State}
use Rattle.rules.specs.Limits.{day}
use Rattle.rules.specs.Map.{Yard, GoodMap, map_yard}
use Rattle.rules.specs.Rows.{Key, first_key, Rising, load, Barred, Ring, keep, insert_all}
use Rattle.rules.specs.RowLaws.{leads_fewer}
use Rattle.rules.specs.Plan.{Stay, stay_at, Permitted, arrival, run_rows}
use Rattle.rules.specs.Book.{CountedBook, GoodBook, Whole, Room, Unbarred, rows_of, book_of, of_ticket, other_ticket}
use Rattle.rules.specs.Page.{page_rows, page_more, last_key}
use Rattle.rules.specs.Chosen.{Chosen}
use Rattle.rules.specs.Bytes.{records, written}
use Rattle.rules.specs.Fault.{FirstBad, Fault}
use Rattle.rules.specs.Gate.{Papers, papers_of}
use Rattle.rules.specs.GateLaws.{unless, past, checked, passed}
use Rattle.rules.specs.Answer.{Planned, Paged, Booking, Cancelling, over, PlanSays, PlanIs, PlanRecords, Planning, answer_number, planned_arrival, planned_count, BookIs, BookingIs, booked_ticket, booked_arrival, booked_count, CancelIs, CancellingIs, Known, cancelled_count, PageSays, PageIs, PageRecords, PagingIs, paged_count}
use Rattle.lanes.specs.Yards.{yard_rules}
use Rattle.lanes.specs.Beginning.{beginning, beginning_permitted, beginning_entry, Lies, stay_lies}
use Rattle.lanes.specs.Chosen.{chosen_best}
use Rattle.keeping.specs.Calls.{empty_good, booking_good, cancelling_good}
use Rattle.keeping.specs.Books.{rows_of_book, book_formed}
use Rattle.keeping.specs.Keeping.{row_ranges, book_rows, rows_book, cancel_rows, rows_cancel}
use Rattle.rules.specs.Walk.{Others, Walk, Walked}
use Rattle.walks.specs.WalkLaws.{others_good, walked}
use Rattle.theorems.specs.Program.{begins_sound, lines_sound, of_book, never_of_book}
use Rattle.faults.specs.Verdict.{OneVerdict, book_verdict, slice_verdict}
use Rattle.faults.specs.Rows.{fault_row}
use Rattle.faults.specs.First.{FirstWrong}
use Rattle.faults.specs.Unrising.{FirstDrop, first_drop}
use Rattle.faults.specs.Overfull.{Overfills, first_overfilling}
use Rattle.faults.specs.Closing.{Closes, first_closing}
use Rattle.theorems.specs.Faults.{Judged, plan_judged, book_judged, cancel_judged, page_judged}
use Rattle.theorems.specs.Freed.{load_split, fewer_permit, PermittedRun, run_permitted, cancelling_next, others_next}
use Rattle.theorems.specs.Rings.{no_ring, barred_ring, ring_barred}
use Rattle.rules.specs.Portal.{MapSlice, slice_yard, slice_rows, CountedSlice, PortalPlan, PortalPage}
use Rattle.rules.specs.Frames.{line_of, LineSays, LinesSay, all_lines, begins}
use Rattle.unique.specs.Unique.{no_second_plan, no_second_booking, no_second_cancelling, no_second_page, no_second_portal_plan, no_second_portal_page}
use Rattle.unique.specs.Line.{no_second_line, no_second_lines}
use Rattle.rules.specs.declared.Line.{Line}
use Rattle.rules.specs.declared.Desk.{Desk}
use Rattle.rules.specs.declared.Intake.{Intake}
use Rattle.rules.specs.declared.Told.{Told}
use Rattle.rules.specs.Program.{AnswerIs, EndedIs, Ends, FedIs, LineIs, Sitting, joined}
use Rattle.frames.specs.Cutting.{whole_output}
use Rattle.frames.specs.Unique.{no_second_answer, no_second_feeding, no_second_ending}

-- ---- demand 2: "the plan given overfills no place, meets no booked wagon in a head-on exchange, and no permitted plan arrives sooner",
-- which "reads the wider rule": it makes no crossing that is barred

pub record Given (m : Map) (b : Book) (start dest s : ℕ) (was out : List ℕ) (r : Planned) : Type 0 where
  pub plan : List Stay
  pub permitted : Permitted (map_yard m) (rows_of b) start dest s plan
  pub soonest : (other : List Stay) → Permitted (map_yard m) (rows_of b) start dest s other → arrival plan ≤ arrival other
  pub chosen : Chosen (map_yard m) (rows_of b) start dest s plan
  pub arrives : planned_arrival r ≡ arrival plan
  pub counts : planned_count r ≡ length plan
  pub holds : out ≡ written (run_rows 0 plan) was

module _ {m : Map} {b : Book} {start dest s : ℕ} {was out : List ℕ} {r : Planned} (P : PlanIs m b start dest s was out r) where
  pub plan_is_best : answer_number r ≡ 0 → Given m b start dest s was out r
  plan_is_best z =
      checked (λ n i h x. absurd (omega (arith, h.some, x.code))) (λ M B. unless wrong (λ on. unless wrong (λ d. unless wrong (λ some c.
      unless wrong (λ fits x. given M B on c.0 c.1 x) c.2)))) P
    where
      wrong : {n a c : ℕ} {l : List ℕ} → Planning (suc n) a c l out r → Given m b start dest s was out r
      wrong x = absurd (omega (arith, x.code))

      given : GoodMap m → GoodBook (map_yard m) b → (start < (map_yard m).places) × (dest < (map_yard m).places) → (plan : List Stay) → Chosen (map_yard m) (rows_of b) start dest s plan
          → Planning 0 (arrival plan) (length plan) (written (run_rows 0 plan) was) out r → Given m b start dest s was out r
      given M B on plan c x =
          let best = chosen_best (map_yard m) (rows_of b) start dest s (yard_rules M.rules).from_on on.1 B.room c in
          record { plan = plan; permitted = best.0; soonest = best.1; chosen = c; arrives = x.arrives; counts = x.counts; holds = x.holds }

  -- "'no plan' is given exactly when none exists by the day's end"
  pub no_plan_exists : answer_number r ≡ 5 → (plan : List Stay) → Permitted (map_yard m) (rows_of b) start dest s plan → ⊥
  no_plan_exists z plan p =
      checked (λ n i h x. h.apart (omega (arith, x.code)) (omega (arith, x.code))) (λ M B. unless (λ u. omega (arith, u.code)) (λ on. unless (λ v. omega (arith, v.code))
      (λ d w. ⊎_elim (λ y. y.0 (plan, p)) (λ y. unless (λ q. omega (arith, q.code)) (λ fits q. omega (arith, q.code)) y.1.2) w))) P

  pub none_is_refused : GoodMap m → GoodBook (map_yard m) b → (start < (map_yard m).places) × (dest < (map_yard m).places) → s ≤ day
      → ((plan : List Stay) → Permitted (map_yard m) (rows_of b) start dest s plan → ⊥) → answer_number r ≡ 5
  none_is_refused M B on d f = unless (λ x. x.code) (λ some _. absurd (f some.0 some.1)) (past d (past on (passed M B P)))

  -- demand 1: "a refusal changes neither the book nor the caller's answer buffer"
  pub refusal_leaves_the_list : 0 < answer_number r → out ≡ was
  refusal_leaves_the_list z =
      checked (λ n i _. left) (λ M B. unless left (λ on. unless left (λ d. unless left (λ some c. unless left (λ fits x. absurd (omega (arith, x.code))) c.2)))) P
    where
      left : {n a c : ℕ} → Planning n a c was out r → out ≡ was
      left x = x.holds

-- ---- "the least second at which any permitted plan's beginning can enter it": "the beginning is itself a permitted plan to the window's place whose last
-- stay enters there (`Enters` in rules/specs/Window.antt); a longer plan's beginning, cut to its place's duration, is such a plan"
-- `beginning` (lanes/specs/Beginning.antt) is the plan up to stay i, that stay cut to its duration. Nothing is asked of the map or of the book.

module _ {Y : Yard} {rows : List Row} {start dest s : ℕ} {plan : List Stay} (P : Permitted Y rows start dest s plan) (i : ℕ) (h : i < length plan) where
  pub a_beginning_is_permitted : Permitted Y rows start (stay_at plan i).place s (beginning Y plan i)
  a_beginning_is_permitted = beginning_permitted P i h

  pub a_beginning_enters_when_the_plan_does : (j : ℕ) → suc j ≡ length (beginning Y plan i) → (stay_at (beginning Y plan i) j).entry ≡ (stay_at plan i).entry
  a_beginning_enters_when_the_plan_does = beginning_entry P i h

  -- so each stay of a permitted plan lies in a window that the plan's beginning enters at the stay's entry
  pub each_stay_lies_in_a_window : Lies Y rows start s plan i
  each_stay_lies_in_a_window = stay_lies P i h

-- ---- demand 2: "Booking adds that plan's rows only"

pub record Added (m : Map) (b : Book) (start dest s : ℕ) (r : Booking) : Type 0 where
  pub plan : List Stay
  pub chosen : Chosen (map_yard m) (rows_of b) start dest s plan
  pub issues : booked_ticket r.answer ≡ b.next_ticket
  pub arrives : booked_arrival r.answer ≡ arrival plan
  pub counts : booked_count r.answer ≡ length plan
  pub old_stay : (x : Row) → Memᴰ x (rows_of b) → Memᴰ x (rows_of r.book)
  pub new_stand : (x : Row) → Memᴰ x (run_rows b.next_ticket plan) → Memᴰ x (rows_of r.book)
  pub no_others : (x : Row) → Memᴰ x (rows_of r.book) → Memᴰ x (rows_of b) ⊎ Memᴰ x (run_rows b.next_ticket plan)
  pub next_up : r.book.next_ticket ≡ b.next_ticket + 1

module _ {m : Map} {b : Book} {start dest s : ℕ} {r : Booking} (P : BookIs m b start dest s r) where
  pub booking_adds : answer_number r.answer ≡ 0 → Added m b start dest s r
  booking_adds z =
      checked (λ n i h x. absurd (omega (arith, h.some, x.code))) (λ M B. unless wrong (λ on. unless wrong (λ d. unless wrong (λ t. unless wrong (λ some c.
      unless wrong (λ fits x. added c.0 c.1 x) c.2))))) P
    where
      wrong : {n k a c : ℕ} {l : Book} → BookingIs (suc n) k a c l r → Added m b start dest s r
      wrong x = absurd (omega (arith, x.code))

      added : (plan : List Stay) → Chosen (map_yard m) (rows_of b) start dest s plan
          → BookingIs 0 b.next_ticket (arrival plan) (length plan) (book_of (insert_all (run_rows b.next_ticket plan) (rows_of b)) (b.next_ticket + 1)) r → Added m b start dest s r
      added plan c x =
          let t = b.next_ticket in
          let rows = insert_all (run_rows t plan) (rows_of b) in
          let e : rows_of r.book ≡ rows = ap rows_of x.holds ∙ rows_of_book rows (t + 1) in
          record {
            plan = plan;
            chosen = c;
            issues = x.issues;
            arrives = x.arrives;
            counts = x.counts;
            old_stay = λ y h. subst (λ (l : List Row). Memᴰ y l) (sym e) (rows_book t plan (rows_of b) y (inl h));
            new_stand = λ y h. subst (λ (l : List Row). Memᴰ y l) (sym e) (rows_book t plan (rows_of b) y (inr h));
            no_others = λ y h. book_rows t plan (rows_of b) y (subst (λ (l : List Row). Memᴰ y l) e h);
            next_up = ap (λ (z : Book). z.next_ticket) x.holds;
          }

  pub refused_booking_changes_nothing : 0 < answer_number r.answer → r.book ≡ b
  refused_booking_changes_nothing z =
      checked (λ n i _. left) (λ M B. unless left (λ on. unless left (λ d. unless left (λ t. unless left (λ some c.
      unless left (λ fits x. absurd (omega (arith, x.code))) c.2))))) P
    where
      left : {n k a c : ℕ} → BookingIs n k a c b r → r.book ≡ b
      left x = x.holds

-- ---- demand 2: "cancelling removes that ticket's rows only"

pub record Taken (b : Book) (ticket : ℕ) (r : Cancelling) : Type 0 where
  pub gone : (x : Row) → Memᴰ x (rows_of r.book) → Memᴰ x (rows_of b) × (x.ticket ≡ ticket → ⊥)
  pub others_stay : (x : Row) → Memᴰ x (rows_of b) × (x.ticket ≡ ticket → ⊥) → Memᴰ x (rows_of r.book)
  pub next_stays : r.book.next_ticket ≡ b.next_ticket

module _ {m : Map} {b : Book} {ticket : ℕ} {r : Cancelling} (P : CancelIs m b ticket r) where
  pub cancelling_removes : answer_number r.answer ≡ 0 → Taken b ticket r
  cancelling_removes z = checked (λ n i h x. absurd (omega (arith, h.some, x.code))) (λ M B. unless wrong (λ known x. taken x)) P
    where
      wrong : {n c : ℕ} {l : Book} → CancellingIs (suc n) c l r → Taken b ticket r
      wrong x = absurd (omega (arith, x.code))

      taken : {c : ℕ} → CancellingIs 0 c (book_of (keep (other_ticket ticket) (rows_of b)) b.next_ticket) r → Taken b ticket r
      taken x =
          let rows = keep (other_ticket ticket) (rows_of b) in
          let e : rows_of r.book ≡ rows = ap rows_of x.holds ∙ rows_of_book rows b.next_ticket in
          record {
            gone = λ y h. cancel_rows ticket (rows_of b) y (subst (λ (l : List Row). Memᴰ y l) e h);
            others_stay = λ y h. subst (λ (l : List Row). Memᴰ y l) (sym e) (rows_cancel ticket (rows_of b) y h);
            next_stays = ap (λ (z : Book). z.next_ticket) x.holds;
          }

-- the room can be used again: each place has the ticket's own load less, what was permitted stays permitted, and the run itself is permitted again
pub record Freed (m : Map) (b : Book) (ticket : ℕ) (r : Cancelling) : Type 0 where
  pub load_falls : (p t : ℕ) → load (rows_of b) p t ≡ load (rows_of r.book) p t + load (keep (of_ticket ticket) (rows_of b)) p t
  pub still_permitted : {start dest s : ℕ} {plan : List Stay} → Permitted (map_yard m) (rows_of b) start dest s plan → Permitted (map_yard m) (rows_of r.book) start dest s plan
  pub run : Whole (map_yard m) (rows_of b) ticket
  pub permitted_again : PermittedRun (map_yard m) (rows_of r.book) run.plan

module _ {m : Map} {b : Book} {ticket : ℕ} {r : Cancelling} (P : CancelIs m b ticket r) where
  pub the_room_is_free_again : answer_number r.answer ≡ 0 → Freed m b ticket r
  the_room_is_free_again z = checked (λ n i h x. absurd (omega (arith, h.some, x.code))) (λ M B. unless wrong (λ known x. freed M B known x)) P
    where
      wrong : {n c : ℕ} {l : Book} → CancellingIs (suc n) c l r → Freed m b ticket r
      wrong x = absurd (omega (arith, x.code))

      freed : GoodMap m → GoodBook (map_yard m) b → Known (rows_of b) ticket → {c : ℕ} → CancellingIs 0 c (book_of (keep (other_ticket ticket) (rows_of b)) b.next_ticket) r → Freed m b ticket r
      freed M B known x =
          let rows = keep (other_ticket ticket) (rows_of b) in
          let e : rows ≡ rows_of r.book = sym (ap rows_of x.holds ∙ rows_of_book rows b.next_ticket) in
          let run : Whole (map_yard m) (rows_of b) ticket = subst (Whole (map_yard m) (rows_of b)) known.has (B.whole known.row known.booked) in
          record {
            load_falls = λ p t. subst (λ (l : List Row). load (rows_of b) p t ≡ load l p t + load (keep (of_ticket ticket) (rows_of b)) p t) e (load_split p t ticket (rows_of b));
            still_permitted = λ {start} {dest} {s} {plan} h. subst (λ (l : List Row). Permitted (map_yard m) l start dest s plan) e (fewer_permit (other_ticket ticket) h);
            run = run;
            permitted_again = subst (λ (l : List Row). PermittedRun (map_yard m) l run.plan) e (run_permitted (yard_rules M.rules) (book_formed B) ticket run);
          }

  -- "a cancelled ticket's number given out again" can't be: whatever others plan, book, cancel and look at in between, no booking issues it
  pub a_cancelled_ticket_is_never_issued_again : answer_number r.answer ≡ 0 → {c : Book} → Others m r.book c → {start dest s : ℕ} {later : Booking} → BookIs m c start dest s later
      → answer_number later.answer ≡ 0 → booked_ticket later.answer ≡ ticket → ⊥
  a_cancelled_ticket_is_never_issued_again z {c} o L done e =
      checked (λ n i h x. omega (arith, h.some, x.code)) (λ M B. unless wrong (λ known x.
      omega (arith, (row_ranges (book_formed B) known.row known.booked).ticket_to, known.has, cancelling_next P, others_next o, (booking_adds L done).issues))) P
    where
      wrong : {n c : ℕ} {l : Book} → CancellingIs (suc n) c l r → ⊥
      wrong x = omega (arith, x.code)

-- ---- demand 2: "a page shows exactly the next rows after its cursor"

pub page_shows : {m : Map} {b : Book} {size : ℕ} {k : Key} {was out : List ℕ} {r : Paged} → PageIs m b size k was out r → answer_number r ≡ 0
    → PagingIs 0 (length (page_rows size k (rows_of b))) (page_more size k (rows_of b)) (last_key k (page_rows size k (rows_of b))) (written (page_rows size k (rows_of b)) was) out r
page_shows {m} {b} {size} {k} {was} {out} {r} P z =
    checked (λ n i h x. absurd (omega (arith, h.some, x.code))) (λ M B. unless wrong (λ sized. unless wrong (λ fits. unless wrong (λ room x. x)))) P
  where
    wrong : {n c : ℕ} {more : Bool} {j : Key} {l : List ℕ} → PagingIs (suc n) c more j l out r
        → PagingIs 0 (length (page_rows size k (rows_of b))) (page_more size k (rows_of b)) (last_key k (page_rows size k (rows_of b))) (written (page_rows size k (rows_of b)) was) out r
    wrong x = absurd (omega (arith, x.code))

-- ---- the book is always well formed: from an empty one on, and through every call

pub the_empty_book_is_good : (Y : Yard) → GoodBook Y (book_of [] 1)
the_empty_book_is_good = empty_good

pub a_booking_keeps_it_good : {m : Map} {b : Book} {start dest s : ℕ} {r : Booking} → BookIs m b start dest s r → GoodBook (map_yard m) b → GoodBook (map_yard m) r.book
a_booking_keeps_it_good = booking_good

pub a_cancellation_keeps_it_good : {m : Map} {b : Book} {ticket : ℕ} {r : Cancelling} → CancelIs m b ticket r → GoodBook (map_yard m) b → GoodBook (map_yard m) r.book
a_cancellation_keeps_it_good = cancelling_good

-- over any calls in any order, refused ones too: `Others` (rules/specs/Walk.antt) lists them
pub the_book_is_always_good : {m : Map} {b : Book} → Others m (book_of [] 1) b → GoodBook (map_yard m) b
the_book_is_always_good {m} calls = others_good calls (the_empty_book_is_good (map_yard m))

-- so it is in `lanebook` after any lines of input, whatever they are, and no line is ever answered with 2 or with one of 13 to 16
pub lanebook_keeps_it_good : {s : State} {lines : List (List ℕ)} {said : List ℕ} → LinesSay begins lines s said → GoodBook (map_yard s.map) s.book
lanebook_keeps_it_good L = (lines_sound L begins_sound).good

pub lanebook_never_finds_its_book_bad : {s s' : State} {lines : List (List ℕ)} {said line answer : List ℕ} → LinesSay begins lines s said → LineSays s line s' answer
    → (n : ℕ) → of_book n ≡ true → answer ≡ line_of (n ∷ []) → ⊥
lanebook_never_finds_its_book_bad L = never_of_book (lines_sound L begins_sound)

-- ---- "a crossing at second t is barred if, together with booked crossings at t, it closes a ring of two or more places. So too in a well-formed book"
-- A ring is a closed walk over places, of any length, each left for the next by a booked crossing of that second (`Ring` in rules/specs/Rows.antt).

pub a_good_book_holds_no_ring : {Y : Yard} {b : Book} → GoodBook Y b → {t : ℕ} {walk : List ℕ} → Ring (rows_of b) t walk → ⊥
a_good_book_holds_no_ring B = no_ring B.exchange

-- so that beside a good book a crossing is barred exactly where it closes a ring
module _ {Y : Yard} {b : Book} (B : GoodBook Y b) (r : Row) (goes_on : r.next ≡ r.place → ⊥) where
  pub what_is_barred_closes_a_ring : Barred (rows_of b) r.place r.next r.exit → (walk : List ℕ) × Ring (r ∷ rows_of b) r.exit walk
  what_is_barred_closes_a_ring = barred_ring r (rows_of b) goes_on

  pub what_closes_a_ring_is_barred : {walk : List ℕ} → Ring (r ∷ rows_of b) r.exit walk → Barred (rows_of b) r.place r.next r.exit
  what_closes_a_ring_is_barred = ring_barred r (rows_of b) goes_on B.exchange

pub fewer_rows_bar_no_more : {few rows : List Row} → ((r : Row) → Memᴰ r few → Memᴰ r rows) → {p q t : ℕ} → Barred few p q t → Barred rows p q t
fewer_rows_bar_no_more f l = leads_fewer f l

-- ---- what is wrong with a book: "the answer carries the number, from 1, of the first stored row at which that check cannot be met by the rows up to and
-- including it; for a broken run it is the first row of the lowest such ticket". `Fault` (rules/specs/Fault.antt) says it of each number.

-- exactly one of "good" (0), 2, 13, 14, 15, 16 holds of a book on a good map, at one row: of a book by value, and of a slice
pub a_book_has_one_verdict : (m : Map) (b : Book) → GoodMap m → OneVerdict (CountedBook (map_yard m) b) (map_yard m) (rows_of b)
a_book_has_one_verdict = book_verdict

pub a_slice_has_one_verdict : (map book : List ℕ) → MapSlice map → OneVerdict (CountedSlice (slice_yard map) book) (slice_yard map) (slice_rows book)
a_slice_has_one_verdict = slice_verdict

-- the row named is a row of the book, and beside 2 there is none
pub the_row_is_in_the_book : {counts : Type 0} {Y : Yard} (rows : List Row) {n i : ℕ} → Fault counts Y rows n i
    → ((n ≡ 2) × (i ≡ 0)) ⊎ ((13 ≤ n) × (n ≤ 16) × (1 ≤ i) × (i ≤ length rows))
the_row_is_in_the_book = fault_row

-- what each call's number and count say of map and book, by value and as slices (`Judged` in Faults.antt): it is done or refused by a number of its own exactly
-- where both are good, by 1 exactly where the map is not, and else by the one number and row at which the book is at fault
pub a_plan_tells_the_fault : {g : Papers} {start dest s : ℕ} {was out : List ℕ} {r : Planned} → PlanSays g start dest s was out r
    → Judged g (answer_number r) (planned_count r)
a_plan_tells_the_fault = plan_judged

pub a_booking_tells_the_fault : {m : Map} {b : Book} {start dest s : ℕ} {r : Booking} → BookIs m b start dest s r
    → Judged (papers_of m b) (answer_number r.answer) (booked_count r.answer)
a_booking_tells_the_fault = book_judged

pub a_cancellation_tells_the_fault : {m : Map} {b : Book} {ticket : ℕ} {r : Cancelling} → CancelIs m b ticket r
    → Judged (papers_of m b) (answer_number r.answer) (cancelled_count r.answer)
a_cancellation_tells_the_fault = cancel_judged

pub a_page_tells_the_fault : {g : Papers} {size : ℕ} {k : Key} {was out : List ℕ} {r : Paged} → PageSays g size k was out r
    → Judged g (answer_number r) (paged_count r)
a_page_tells_the_fault = page_judged

-- 13 is the first row whose key is not above the one before it; at 15 the row's own place is overfilled by the rows up to it, and at 16 its crossing closes a ring
-- with rows before it; no earlier row does so
pub a_13_is_the_first_drop : (rows : List Row) {i : ℕ} → FirstBad Rising rows i → FirstDrop rows i
a_13_is_the_first_drop = first_drop

pub a_15_is_the_first_to_overfill : (Y : Yard) (rows : List Row) {i : ℕ} → FirstBad (Room Y) rows i → FirstWrong (Overfills Y rows) rows i
a_15_is_the_first_to_overfill = first_overfilling

pub a_16_is_the_first_to_close_a_ring : (rows : List Row) {i : ℕ} → FirstBad Unbarred rows i → FirstWrong (Closes rows) rows i
a_16_is_the_first_to_close_a_ring = first_closing

-- ---- demand 3: "Take a walk over one book from the first cursor to a page that says no more .. while others plan, book and cancel between pages."
-- `Walked` (rules/specs/Walk.antt) has its five sentences.

pub every_walk_is_true : {m : Map} {b : Book} (w : Walk m first_key b) → Walked w
every_walk_is_true = walked

-- ---- "Prove that no second answer satisfies it"

pub one_plan : {m : Map} {b : Book} {start dest s : ℕ} {was out out' : List ℕ} {r r' : Planned} → PlanIs m b start dest s was out r → PlanIs m b start dest s was out' r' → (r ≡ r') × (out ≡ out')
one_plan {m} {b} {start} {dest} {s} {was} {out} {out'} {r} {r'} = no_second_plan (papers_of m b) (records was) (λ l. written l was) start dest s was out out' r r' (λ M. (yard_rules M.rules).long)

pub one_booking : {m : Map} {b : Book} {start dest s : ℕ} {r r' : Booking} → BookIs m b start dest s r → BookIs m b start dest s r' → r ≡ r'
one_booking {m} {b} {start} {dest} {s} {r} {r'} = no_second_booking m b start dest s r r'

pub one_cancellation : {m : Map} {b : Book} {ticket : ℕ} {r r' : Cancelling} → CancelIs m b ticket r → CancelIs m b ticket r' → r ≡ r'
one_cancellation {m} {b} {ticket} {r} {r'} = no_second_cancelling m b ticket r r'

pub one_page : {m : Map} {b : Book} {size : ℕ} {k : Key} {was out out' : List ℕ} {r r' : Paged} → PageIs m b size k was out r → PageIs m b size k was out' r' → (r ≡ r') × (out ≡ out')
one_page {m} {b} {size} {k} {was} {out} {out'} {r} {r'} = no_second_page (papers_of m b) (records was) (λ l. written l was) size k was out out' r r'

-- the caller's list as row records
pub one_plan_in_records : {m : Map} {b : Book} {start dest s : ℕ} {was out out' : List Row} {r r' : Planned} → PlanRecords m b start dest s was out r → PlanRecords m b start dest s was out' r' → (r ≡ r') × (out ≡ out')
one_plan_in_records {m} {b} {start} {dest} {s} {was} {out} {out'} {r} {r'} = no_second_plan (papers_of m b) (length was) (over was) start dest s was out out' r r' (λ M. (yard_rules M.rules).long)

pub one_page_in_records : {m : Map} {b : Book} {size : ℕ} {k : Key} {was out out' : List Row} {r r' : Paged} → PageRecords m b size k was out r → PageRecords m b size k was out' r' → (r ≡ r') × (out ≡ out')
one_page_in_records {m} {b} {size} {k} {was} {out} {out'} {r} {r'} = no_second_page (papers_of m b) (length was) (over was) size k was out out' r r'

pub one_portal_plan : {map book : List ℕ} {start dest s : ℕ} {was out out' : List ℕ} {r r' : ℕ} → PortalPlan map book start dest s was out r → PortalPlan map book start dest s was out' r' → (r ≡ r') × (out ≡ out')
one_portal_plan {map} {book} {start} {dest} {s} {was} {out} {out'} {r} {r'} = no_second_portal_plan map book start dest s was out out' r r'

pub one_portal_page : {map book : List ℕ} {size : ℕ} {k : Key} {was out out' : List ℕ} {r r' : ℕ} → PortalPage map book size k was out r → PortalPage map book size k was out' r' → (r ≡ r') × (out ≡ out')
one_portal_page {map} {book} {size} {k} {was} {out} {out'} {r} {r'} = no_second_portal_page map book size k was out out' r r'

-- ---- the program: however its input is cut into reads, its output is what the lines of the whole input say, one after the other, and that is one output

-- The desk begins with the state `begins` and no line begun (`frames::first_desk`). It is fed the reads one after the other, and their answers together are `said`
-- (`Sitting`); the answer to a last line that lacks its line feed is `last`, empty where there is none (`Ends`).
pub the_output_is_what_the_lines_say : {d e : Desk} {s : State} {reads : List (List ℕ)} {said last : List ℕ} → d.state ≡ begins → LineIs [] d.line
    → Sitting d reads e said → Ends e s last → LinesSay begins (all_lines (joined reads)) s (said ++ last)
the_output_is_what_the_lines_say = whole_output

pub one_output : (input : List ℕ) {s₁ s₂ : State} {said₁ said₂ : List ℕ} → LinesSay begins (all_lines input) s₁ said₁ → LinesSay begins (all_lines input) s₂ said₂ → (s₁ ≡ s₂) × (said₁ ≡ said₂)
one_output input = no_second_lines

-- no second answer to a line, nor from the three calls that answer: one line, the lines that a read ends, the last line
pub one_line : {s s₁ s₂ : State} {line said₁ said₂ : List ℕ} → LineSays s line s₁ said₁ → LineSays s line s₂ said₂ → (s₁ ≡ s₂) × (said₁ ≡ said₂)
one_line = no_second_line

pub one_answer : {s : State} {l : Line} {was out out' : List ℕ} {r r' : Told} → AnswerIs s l was out r → AnswerIs s l was out' r' → (r ≡ r') × (out ≡ out')
one_answer = no_second_answer

-- where `fed` stops is fixed too: at the end of the bytes, or at the first byte where the answers leave no room for one more
pub one_feeding : {d : Desk} {buf : List ℕ} {from : ℕ} {was out out' : List ℕ} {r r' : Intake} → FedIs d buf from was out r → FedIs d buf from was out' r' → (r ≡ r') × (out ≡ out')
one_feeding = no_second_feeding

pub one_ending : {d : Desk} {was out out' : List ℕ} {r r' : Told} → EndedIs d was out r → EndedIs d was out' r' → (r ≡ r') × (out ≡ out')
one_ending = no_second_ending
