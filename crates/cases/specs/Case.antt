-- What a line of a table of cases means on a map: that the calls' contracts hold of the document's answer, and for planning also what the contract
-- says of the plan. A test of each line is proved to give its meaning, for any line at all.
use Rattle.std.specs.Prelude.{ℕ, ◌+◌, ◌≤◌, ◌<◌, ◌≡◌, refl, Bool, true, ◌&&◌, not, eqb, leb, ltb, Ok, Err}
use Rattle.std.proofs.Math.Path.{sym, ap, subst}
use Rattle.std.proofs.Common.{subst₂, ◌∙◌, inl, arith}
use Rattle.std.proofs.Math.Logic.{inr}
use mathlib.Core.List.{List, [], ◌∷◌, Memᴰ}
use Rattle.std.proofs.Math.ListN.{length}
use borrow.Author.Tests.{leb-true, ltb-true, eqb-true, lt-ltb, not-true}
use Rattle.laws.specs.Tests.{and_l, and_r, and_in, not_both}
use Rattle.laws.specs.Lists.{index_mem}
use Rattle.rules.specs.declared.Row.{Row}
use Rattle.rules.specs.declared.Cursor.{Cursor}
use Rattle.rules.specs.declared.Refusal.{Refusal}
use Rattle.rules.specs.declared.Refusal.TheVariants.{OffMap, OffDay, NoPlan}
use Rattle.rules.specs.Limits.{day, row_limit, ticket_limit, page_limit}
use Rattle.rules.specs.Map.{linked, Yard, map_yard}
use Rattle.rules.specs.Rows.{Key, no_row, lessb, covers, load, keep, insert_all}
use Rattle.rules.specs.RingLaws.{leadsb}
use Rattle.rules.specs.Plan.{Stay, stay_at, Permitted, arrival, run_rows}
use Rattle.rules.specs.Page.{page_rows, page_more, last_key}
use Rattle.rules.specs.Book.{WellFormed, GoodBook, rows_of, book_of, of_ticket, other_ticket}
use Rattle.rules.specs.Bytes.{records, written}
use Rattle.rules.specs.Gate.{papers_of, Checked}
use Rattle.rules.specs.Gate.Checked.{sound}
use Rattle.rules.specs.Answer.{Planned, Booking, Paged, PlanSound, PlanIs, BookSound, BookIs, CancelIs, Known, PageSound, PageIs, CursorFits}
use Rattle.keeping.specs.Books.{rows_of_book, good_book}
use Rattle.keeping.specs.Changes.{mem_keep}
use Rattle.cases.specs.Checks.{every, holds, all_b, all_out, under, lex_b, same_plan, same_rows, same_rows_lem, answers_agree, same_answer}
use Rattle.cases.specs.Edges.{end_in}
use Rattle.cases.specs.Next.{scan, least_entry}
use Rattle.cases.specs.Listing.{windows_below}
use Rattle.cases.specs.Entries.{entries_b}
use Rattle.cases.specs.Trail.{rival_b, prior_b, begins_b, trail_b, later_b, chosen_b, closed_b, none_b}
use Rattle.cases.specs.Permits.{free_b, permitted_b, permitted_is}
use Rattle.cases.specs.Maps.{Barn, yard, arrays, arrays_yard, barn_rules, barn_good}
use Rattle.cases.specs.Barn.{plan_b, refused_b, none_permitted}
use Rattle.cases.specs.Past.{Past, booked, cancelled, next_ticket, rows_now, book_now, ask_tests, book_tests, past_b, past_formed, Answered, answered}

-- "Stays are written place:entry-exit."
abbrev pub stay : ℕ → ℕ → ℕ → Stay
stay p a b = record { place = p; entry = a; exit = b }

-- why a plan is refused beside a sound map and book: a place off the map, a second after the day, no permitted plan
pub data Reason : Type 0 where
  off_map : Reason
  off_day : Reason
  no_plan : Reason

abbrev refusal : Reason → Refusal
refusal off_map = OffMap
refusal off_day = OffDay
refusal no_plan = NoPlan

-- each beside the book of a past
pub data Case : Type 0 where
  -- from start to dest at second s: these stays, with this arrival
  plans : Past → (start dest s : ℕ) → List Stay → (arrives : ℕ) → Case
  -- from start to dest at second s these stays are permitted, with this arrival, be they chosen or not
  permits : Past → (start dest s : ℕ) → List Stay → (arrives : ℕ) → Case
  -- from start to dest at second s: refused
  refuses : Past → (start dest s : ℕ) → Reason → Case
  -- from start to dest at second s: these stays are booked under this ticket, with this arrival
  books : Past → (start dest s : ℕ) → List Stay → (ticket arrives : ℕ) → Case
  -- so many rows of the ticket are removed
  cancels : Past → (ticket count : ℕ) → Case
  -- a page of this size after the cursor: these rows, and whether there are more
  pages : Past → (size : ℕ) → Key → List Row → Bool → Case

abbrev pub cursor_of : Key → Cursor
cursor_of k = record { place = k.place; entry = k.entry; ticket = k.ticket }

module _ (G : Barn) where
  abbrev Y : Yard
  Y = yard G

  -- ---- what each line says

  -- the plan is the chosen one, and the call's contract holds of it for any list that is long enough
  pub record Plans (h : Past) (start dest s : ℕ) (plan : List Stay) (a : ℕ) : Type 0 where
    pub formed : WellFormed Y (rows_now h) (next_ticket h)
    pub answer : Answered G h start dest s plan
    pub arrives : arrival plan ≡ a
    pub says : (was : List ℕ) → length plan ≤ records was
        → PlanIs (arrays G) (book_now h) start dest s was (written (run_rows 0 plan) was) (Ok (record { arrival = a; count = length plan }))

  pub record Permits (h : Past) (start dest s : ℕ) (plan : List Stay) (a : ℕ) : Type 0 where
    pub permitted : Permitted Y (rows_now h) start dest s plan
    pub arrives : arrival plan ≡ a

  -- the table's condition of a refusal
  abbrev pub Why : Past → ℕ → ℕ → ℕ → Reason → Type 0
  Why h start dest s off_map = (start < Y.places) × (dest < Y.places) → ⊥
  Why h start dest s off_day = day < s
  Why h start dest s no_plan = (plan : List Stay) → Permitted Y (rows_now h) start dest s plan → ⊥

  pub record Refuses (h : Past) (start dest s : ℕ) (r : Reason) : Type 0 where
    pub formed : WellFormed Y (rows_now h) (next_ticket h)
    pub why : Why h start dest s r
    pub says : (was : List ℕ) → PlanIs (arrays G) (book_now h) start dest s was was (Err (refusal r))

  -- the book after is the book of the longer past
  pub record Books (h : Past) (start dest s : ℕ) (plan : List Stay) (k a : ℕ) : Type 0 where
    pub answer : Answered G h start dest s plan
    pub formed : WellFormed Y (rows_now (booked h start dest s plan)) (k + 1)
    pub says : BookIs (arrays G) (book_now h) start dest s (record { book = book_now (booked h start dest s plan); answer = Ok (record { ticket = k; arrival = a; count = length plan }) })

  pub record Cancels (h : Past) (k n : ℕ) : Type 0 where
    pub formed : WellFormed Y (rows_now (cancelled h k)) (next_ticket h)
    pub says : CancelIs (arrays G) (book_now h) k (record { book = book_now (cancelled h k); answer = Ok n })

  pub record Pages (h : Past) (size : ℕ) (k : Key) (rows : List Row) (more : Bool) : Type 0 where
    pub formed : WellFormed Y (rows_now h) (next_ticket h)
    pub shows : page_rows size k (rows_now h) ≡ rows
    pub says : (was : List ℕ) → size ≤ records was
        → PageIs (arrays G) (book_now h) size k was (written rows was) (Ok (record { count = length rows; more = more; cursor = cursor_of (last_key k rows) }))

  abbrev pub Means : Case → Type 0
  Means (plans h start dest s plan a) = Plans h start dest s plan a
  Means (permits h start dest s plan a) = Permits h start dest s plan a
  Means (refuses h start dest s r) = Refuses h start dest s r
  Means (books h start dest s plan k a) = Books h start dest s plan k a
  Means (cancels h k n) = Cancels h k n
  Means (pages h size k rows more) = Pages h size k rows more

  -- ---- the tests

  abbrev plan_case : Past → ℕ → ℕ → ℕ → List Stay → ℕ → List Bool
  plan_case h start dest s plan a = past_b G h ∷ every (ask_tests G start dest s) ∷ plan_b Y (rows_now h) start dest s plan ∷ eqb (arrival plan) a ∷ []

  abbrev permit_case : Past → ℕ → ℕ → ℕ → List Stay → ℕ → List Bool
  permit_case h start dest s plan a =
      past_b G h ∷ permitted_b Y (rows_now h) dest plan ∷ eqb (stay_at plan 0).place start ∷ eqb (stay_at plan 0).entry s ∷ eqb (arrival plan) a ∷ []

  abbrev book_case : Past → ℕ → ℕ → ℕ → List Stay → ℕ → ℕ → List Bool
  book_case h start dest s plan k a = past_b G (booked h start dest s plan) ∷ eqb (next_ticket h) k ∷ eqb (arrival plan) a ∷ []

  abbrev cancel_case : Past → ℕ → ℕ → List Bool
  cancel_case h k n = past_b G h ∷ eqb (length (keep (of_ticket k) (rows_now h))) n ∷ ltb 0 n ∷ []

  abbrev page_case : Past → ℕ → Key → List Row → Bool → List Bool
  page_case h size k rows more =
      past_b G h ∷ same_rows (page_rows size k (rows_now h)) rows ∷ answers_agree more (page_more size k (rows_now h)) ∷ leb 1 size ∷ leb size page_limit
      ∷ ltb k.place Y.places ∷ leb k.entry day ∷ ltb k.ticket ticket_limit ∷ []

  abbrev refuse_case : Past → ℕ → ℕ → ℕ → Reason → List Bool
  refuse_case h start dest s off_map = past_b G h ∷ not (ltb start Y.places && ltb dest Y.places) ∷ []
  refuse_case h start dest s off_day = past_b G h ∷ ltb start Y.places ∷ ltb dest Y.places ∷ ltb day s ∷ []
  refuse_case h start dest s no_plan = past_b G h ∷ every (ask_tests G start dest s) ∷ refused_b Y (rows_now h) start dest s ∷ []

  unfoldable pub case_b : Case → Bool
  case_b (plans h start dest s plan a) = every (plan_case h start dest s plan a)
  case_b (permits h start dest s plan a) = every (permit_case h start dest s plan a)
  case_b (refuses h start dest s r) = every (refuse_case h start dest s r)
  case_b (books h start dest s plan k a) = every (book_case h start dest s plan k a)
  case_b (cancels h k n) = every (cancel_case h k n)
  case_b (pages h size k rows more) = every (page_case h size k rows more)

  -- ---- each test gives its line's meaning

  module _ (h : Past) (W : WellFormed Y (rows_now h) (next_ticket h)) where
    good : GoodBook (map_yard (arrays G)) (book_now h)
    good = good_book (subst (λ (Z : Yard). WellFormed Z (rows_now h) (next_ticket h)) (sym (arrays_yard G)) W)

    -- the rows of the array form are the past's
    read : rows_of (book_now h) ≡ rows_now h
    read = rows_of_book (rows_now h) (next_ticket h)

    -- a sound map and book, and then what is said over the yard and the past's rows
    says : (S : Yard → List Row → Type 0) {refused : ℕ → ℕ → Type 0} → S Y (rows_now h)
        → Checked (papers_of (arrays G) (book_now h)) refused (S (map_yard (arrays G)) (rows_of (book_now h)))
    says S x = sound (barn_good G) good (subst₂ S (sym (arrays_yard G)) (sym read) x)

    plan_says : {start dest s : ℕ} {was out : List ℕ} {r : Planned} → PlanSound Y (rows_now h) start dest s was out r → PlanIs (arrays G) (book_now h) start dest s was out r
    plan_says {start} {dest} {s} {was} {out} {r} = says (λ Z l. PlanSound Z l start dest s was out r)

    book_says : {start dest s : ℕ} {r : Booking} → BookSound Y (rows_now h) (book_now h) start dest s r → BookIs (arrays G) (book_now h) start dest s r
    book_says {start} {dest} {s} {r} = says (λ Z l. BookSound Z l (book_now h) start dest s r)

    page_says : {size : ℕ} {k : Key} {was out : List ℕ} {r : Paged} → PageSound Y (rows_now h) size k was out r → PageIs (arrays G) (book_now h) size k was out r
    page_says {size} {k} {was} {out} {r} = says (λ Z l. PageSound Z l size k was out r)

  plans_mean : (h : Past) (start dest s : ℕ) (plan : List Stay) (a : ℕ) → every (plan_case h start dest s plan a) ≡ true → Plans h start dest s plan a
  plans_mean h start dest s plan a t =
      let ts = plan_case h start dest s plan a in
      let W = past_formed G h (holds ts t 0) in
      let ask = holds ts t 1 in
      let on = ltb-true start Y.places (holds (ask_tests G start dest s) ask 0) in
      let to = ltb-true dest Y.places (holds (ask_tests G start dest s) ask 1) in
      let d = leb-true s day (holds (ask_tests G start dest s) ask 2) in
      let A = answered G h start dest s plan W to (holds ts t 2) in
      let e = eqb-true (arrival plan) a (holds ts t 3) in
      record {
        formed = W;
        answer = A;
        arrives = e;
        says = λ was l.
            plan_says h W
            (inr ((on, to), inr (d, inr ((plan, A.permitted), (plan, A.chosen, inr (l, record { code = refl; arrives = sym e; counts = refl; holds = refl }))))));
      }

  permits_mean : (h : Past) (start dest s : ℕ) (plan : List Stay) (a : ℕ) → every (permit_case h start dest s plan a) ≡ true → Permits h start dest s plan a
  permits_mean h start dest s plan a t =
      let ts = permit_case h start dest s plan a in
      let P = permitted_is Y (rows_now h) dest (past_formed G h (holds ts t 0)).room plan (holds ts t 1) in
      let p = eqb-true (stay_at plan 0).place start (holds ts t 2) in
      let q = eqb-true (stay_at plan 0).entry s (holds ts t 3) in
      record { permitted = subst₂ (λ x y. Permitted Y (rows_now h) x dest y plan) p q P; arrives = eqb-true (arrival plan) a (holds ts t 4) }

  -- a start or destination off the map is refused beside any book
  pub off_map_refuses : (h : Past) (start dest s : ℕ) → past_b G h ≡ true → ((start < Y.places) × (dest < Y.places) → ⊥) → Refuses h start dest s off_map
  off_map_refuses h start dest s t off =
      let W = past_formed G h t in
      record { formed = W; why = off; says = λ was. plan_says h W (inl (off, record { code = refl; arrives = refl; counts = refl; holds = refl })) }

  off_day_refuses : (h : Past) (start dest s : ℕ) → every (refuse_case h start dest s off_day) ≡ true → Refuses h start dest s off_day
  off_day_refuses h start dest s t =
      let ts = refuse_case h start dest s off_day in
      let W = past_formed G h (holds ts t 0) in
      let on = ltb-true start Y.places (holds ts t 1) in
      let to = ltb-true dest Y.places (holds ts t 2) in
      let late = ltb-true day s (holds ts t 3) in
      record {
        formed = W;
        why = late;
        says = λ was. plan_says h W (inr ((on, to), inl (λ d. omega arith, record { code = refl; arrives = refl; counts = refl; holds = refl })));
      }

  no_plan_refuses : (h : Past) (start dest s : ℕ) → every (refuse_case h start dest s no_plan) ≡ true → Refuses h start dest s no_plan
  no_plan_refuses h start dest s t =
      let ts = refuse_case h start dest s no_plan in
      let W = past_formed G h (holds ts t 0) in
      let ask = holds ts t 1 in
      let on = ltb-true start Y.places (holds (ask_tests G start dest s) ask 0) in
      let to = ltb-true dest Y.places (holds (ask_tests G start dest s) ask 1) in
      let d = leb-true s day (holds (ask_tests G start dest s) ask 2) in
      let none = none_permitted Y (rows_now h) start dest s (barn_rules G) W.room (holds ts t 2) in
      record {
        formed = W;
        why = none;
        says = λ was. plan_says h W (inr ((on, to), inr (d, inl (λ x. none x.0 x.1, record { code = refl; arrives = refl; counts = refl; holds = refl }))));
      }

  refuses_mean : (h : Past) (start dest s : ℕ) (r : Reason) → every (refuse_case h start dest s r) ≡ true → Refuses h start dest s r
  refuses_mean h start dest s off_map t =
      let ts = refuse_case h start dest s off_map in
      off_map_refuses h start dest s (holds ts t 0)
      (λ on. not_both (and_in (lt-ltb start Y.places on.0) (lt-ltb dest Y.places on.1)) (not-true (ltb start Y.places && ltb dest Y.places) (holds ts t 1)))
  refuses_mean h start dest s off_day t = off_day_refuses h start dest s t
  refuses_mean h start dest s no_plan t = no_plan_refuses h start dest s t

  books_mean : (h : Past) (start dest s : ℕ) (plan : List Stay) (k a : ℕ) → every (book_case h start dest s plan k a) ≡ true → Books h start dest s plan k a
  unfolding past_b
  books_mean h start dest s plan k a t =
      let ts = book_case h start dest s plan k a in
      let past = holds ts t 0 in
      let bs = book_tests G h start dest s plan in
      let u = and_r (past_b G h) (every bs) past in
      let W = past_formed G h (and_l (past_b G h) (every bs) past) in
      let ask = holds bs u 0 in
      let on = ltb-true start Y.places (holds (ask_tests G start dest s) ask 0) in
      let to = ltb-true dest Y.places (holds (ask_tests G start dest s) ask 1) in
      let d = leb-true s day (holds (ask_tests G start dest s) ask 2) in
      let A = answered G h start dest s plan W to (holds bs u 1) in
      let before = ltb-true (next_ticket h) ticket_limit (holds bs u 2) in
      let fits = leb-true (length (rows_now h) + length plan) row_limit (holds bs u 3) in
      let e = eqb-true (next_ticket h) k (holds ts t 1) in
      let here : rows_now h ≡ rows_of (book_now h) = sym (read h W) in
      record {
        answer = A;
        formed = subst (λ (n : ℕ). WellFormed Y (rows_now (booked h start dest s plan)) (n + 1)) e (past_formed G (booked h start dest s plan) past);
        says =
            book_says h W
            (inr (
              (on, to),
              inr (
                d,
                inr (
                  before,
                  inr (
                    (plan, A.permitted),
                    (
                      plan,
                      A.chosen,
                      inr (
                        fits,
                        record {
                          code = refl;
                          issues = sym e;
                          arrives = sym (eqb-true (arrival plan) a (holds ts t 2));
                          counts = refl;
                          holds = ap (λ (l : List Row). book_of (insert_all (run_rows (next_ticket h) plan) l) (next_ticket h + 1)) here;
                        },
                      ),
                    ),
                  ),
                ),
              ),
            ));
      }

  cancels_mean : (h : Past) (k n : ℕ) → every (cancel_case h k n) ≡ true → Cancels h k n
  unfolding past_b
  cancels_mean h k n t =
      let ts = cancel_case h k n in
      let W = past_formed G h (holds ts t 0) in
      let e = eqb-true (length (keep (of_ticket k) (rows_now h))) n (holds ts t 1) in
      let some : 0 < length (keep (of_ticket k) (rows_now h)) = omega (arith, ltb-true 0 n (holds ts t 2)) in
      let m = mem_keep (of_ticket k) _ (rows_now h) (index_mem no_row (keep (of_ticket k) (rows_now h)) 0 some) in
      let here : rows_now h ≡ rows_of (book_now h) = sym (read h W) in
      record {
        formed = past_formed G (cancelled h k) (holds ts t 0);
        says =
            sound (barn_good G) (good h W)
            (inr (
              subst (λ (l : List Row). Known l k) here (record { row = _; booked = m.0; has = eqb-true _ k m.1 }),
              record {
                code = refl;
                counts = sym e ∙ ap (λ (l : List Row). length (keep (of_ticket k) l)) here;
                holds = ap (λ (l : List Row). book_of (keep (other_ticket k) l) (next_ticket h)) here;
              },
            ));
      }

  pages_mean : (h : Past) (size : ℕ) (k : Key) (rows : List Row) (more : Bool) → every (page_case h size k rows more) ≡ true → Pages h size k rows more
  pages_mean h size k rows more t =
      let ts = page_case h size k rows more in
      let W = past_formed G h (holds ts t 0) in
      let e = same_rows_lem (page_rows size k (rows_now h)) rows (holds ts t 1) in
      let m = same_answer more (page_more size k (rows_now h)) (holds ts t 2) in
      let fits : CursorFits Y k = record { place = ltb-true k.place Y.places (holds ts t 5); entry = leb-true k.entry day (holds ts t 6); ticket = ltb-true k.ticket ticket_limit (holds ts t 7) } in
      record {
        formed = W;
        shows = e;
        says = λ was l.
            page_says h W
            (inr (
              (leb-true 1 size (holds ts t 3), leb-true size page_limit (holds ts t 4)),
              inr (
                fits,
                inr (
                  l,
                  record {
                    code = refl;
                    counts = ap (λ (x : List Row). length x) (sym e);
                    says = m;
                    hands = ap (λ (x : List Row). last_key k x) (sym e);
                    holds = ap (λ (x : List Row). written x was) (sym e);
                  },
                ),
              ),
            ));
      }

  pub case_means : (c : Case) → case_b c ≡ true → Means c
  unfolding case_b
  case_means (plans h start dest s plan a) t = plans_mean h start dest s plan a t
  case_means (permits h start dest s plan a) t = permits_mean h start dest s plan a t
  case_means (refuses h start dest s r) t = refuses_mean h start dest s r t
  case_means (books h start dest s plan k a) t = books_mean h start dest s plan k a t
  case_means (cancels h k n) t = cancels_mean h k n t
  case_means (pages h size k rows more) t = pages_mean h size k rows more t

  -- ---- a table of cases

  -- one test of all lines, which computes
  unfoldable pub table_b : List Case → Bool
  unfolding case_b past_b plan_b refused_b under lex_b same_plan same_rows answers_agree end_in leadsb scan least_entry windows_below entries_b rival_b prior_b begins_b trail_b later_b chosen_b closed_b none_b free_b permitted_b lessb covers load linked arrival
  table_b cs = all_b case_b cs

  -- and every line of a table that stands it means what it says
  pub table_means : (cs : List Case) → table_b cs ≡ true → (c : Case) → Memᴰ c cs → Means c
  unfolding table_b
  table_means cs t c m = case_means c (all_out case_b cs t c m)
