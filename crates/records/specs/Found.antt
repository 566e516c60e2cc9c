-- Rows found for a caller with room for so many records. The calls on packed rows are made with a list of as many records as there is room for, at
-- most 1,280: a plan has no more stays than that and a page no more rows, so that the list is too short for the call exactly where the caller's is.
-- The rows are read back from the bytes; over the caller's records they are what the call on records leaves.
use Rattle.std.specs.Prelude.{ℕ, ◌*◌, ◌/◌, ◌≤◌, ◌<◌, ◌≡◌, false, length, take, drop}
use Rattle.std.proofs.Common.{sym, ap, ap₂, subst, ◌∙◌, inl, inr, ⊎_elim, arith, length-append, length-drop, take-append-drop, length-take-le}
use mathlib.Core.List.{List, ◌++◌, Memᴰ}
use Rattle.laws.specs.Order.{lt_or_ge}
use Rattle.laws.specs.Lists.{index_mem}
use Rattle.rules.specs.declared.Row.{Row}
use Rattle.rules.specs.declared.Trip.{Trip}
use Rattle.rules.specs.declared.Shown.{Shown}
use Rattle.rules.specs.declared.Map.{Map}
use Rattle.rules.specs.declared.Book.{Book}
use Rattle.rules.specs.Limits.{plan_limit, page_limit}
use Rattle.rules.specs.Map.{GoodMap, map_yard}
use Rattle.rules.specs.Rows.{Key, row_key, first_key, no_row, row_at, lessb}
use Rattle.rules.specs.Page.{after, page_rows, page_more, last_key}
use Rattle.rules.specs.Plan.{Stay, stay_at, Permitted, run_rows, arrival}
use Rattle.rules.specs.Book.{GoodBook, rows_of}
use Rattle.rules.specs.Chosen.{Chosen}
use Rattle.rules.specs.Bytes.{row_size, records, list_size}
use Rattle.rules.specs.ByteLaws.{RowFits}
use Rattle.rules.specs.Gate.{Unless, papers_of}
use Rattle.rules.specs.GateLaws.{instead, checked_as, same_papers}
use Rattle.rules.specs.Answer.{Planned, Paged, rows_done, Planning, PlanIs, PlanRecords, PlanRefused, PlanDone, planned_rows, PagingIs, PageIs, PageRecords, PageRefused, PageDone, paged_rows, over}
use Rattle.lanes.specs.Yards.{YardRules, yard_rules}
use Rattle.lanes.specs.Windows.{ends}
use Rattle.lanes.specs.Chosen.{chosen_best}
use Rattle.keeping.specs.Runs.{run_length}
use Rattle.keeping.specs.Changes.{mem_keep}
use Rattle.keeping.specs.Keeping.{row_fits}
use Rattle.keeping.specs.Books.{book_formed}
use Rattle.desk.specs.Few.{no_stays, no_rows, plan_within, page_within, page_short}
use Rattle.records.specs.declared.Found.{Found}
use Rattle.records.specs.Few.{chosen_few}
use Rattle.records.specs.Reading.{RowsRead, read_all, StayFits, run_fits}

-- the length of the list of packed rows that is lent for so much room
pub record Lent (room n : ℕ) : Type 0 where
  pub small : room < plan_limit → n ≡ row_size * room
  pub large : plan_limit ≤ room → n ≡ list_size

pub lent_fits : {room n : ℕ} → Lent room n → n ≤ list_size
lent_fits {room} {n} L = ⊎_elim (λ (c : room < plan_limit). omega (arith, L.small c)) (λ (c : plan_limit ≤ room). omega (arith, L.large c)) (lt_or_ge room plan_limit)

-- the records of such a list are the room, but no more than 1,280
lent_few : {room n : ℕ} → Lent room n → n / row_size ≤ plan_limit
lent_few {room} {n} L = omega (arith, lent_fits L)

lent_room : {room n : ℕ} → Lent room n → n / row_size ≤ room
lent_room {room} {n} L = ⊎_elim (λ (c : room < plan_limit). omega (arith, L.small c)) (λ (c : plan_limit ≤ room). omega (arith, L.large c)) (lt_or_ge room plan_limit)

lent_enough : {room n : ℕ} (k : ℕ) → Lent room n → k ≤ plan_limit → k ≤ room → k ≤ n / row_size
lent_enough {room} {n} k L h g = ⊎_elim (λ (c : room < plan_limit). omega (arith, L.small c)) (λ (c : plan_limit ≤ room). omega (arith, L.large c)) (lt_or_ge room plan_limit)

-- such a list is the front of one of 1,280 records, which is as long as it was once the front has been written
module _ {room n : ℕ} (L : Lent room n) (z : List ℕ) (l : length z ≡ list_size) where
  pub lent_length : n ≡ length (take n z)
  lent_length = sym (length-take-le n z (omega (arith, lent_fits L)))

  pub lent_back : (p : List ℕ) → length p ≡ length (take n z) → list_size ≡ length (p ++ drop n z)
  lent_back p e = omega (arith, lent_fits L, lent_length, length-append p (drop n z), length-drop n z)

  lent_front : Lent room (length (take n z))
  lent_front = subst (Lent room) lent_length L

-- the first n rows over the caller's records
abbrev pub put : ℕ → List Row → List Row → List Row
put n rows was = take n rows ++ drop n was

put_none : {n : ℕ} (rows was : List Row) → n ≡ 0 → put n rows was ≡ was
put_none rows was e = rw e

put_all : {n : ℕ} (got rows was : List Row) → n ≡ length rows → take n got ≡ rows → put n got was ≡ over was rows
put_all {n} got rows was e f = ap (λ (l : List Row). l ++ drop n was) f ∙ ap (λ (k : ℕ). rows ++ drop k was) e

-- ---- plan

-- what is found for a plan: over any list with this room it is the answer of the call on records
pub record PlanFound (m : Map) (b : Book) (start dest s room : ℕ) (f : Found Trip) : Type 0 where
  pub few : f.count ≤ plan_limit
  pub fits : f.count ≤ room
  pub says : (was : List Row) → length was ≡ room → PlanRecords m b start dest s was (put f.count f.rows was) f.answer

-- the stays of a plan of the day fit
stays_fit : (m : Map) (b : Book) {start dest s : ℕ} {plan : List Stay} → GoodMap m → Permitted (map_yard m) (rows_of b) start dest s plan → (i : ℕ) → i < length plan → StayFits (stay_at plan i)
stays_fit m b {plan = plan} M P i h = record {
  place = omega (arith, P.run.on_map i h, M.rules.few);
  entry = omega (arith, ends P i h, P.run.lasts i h);
  exit = omega (arith, ends P i h);
}

module _ {m : Map} {b : Book} {start dest s room : ℕ} {lent out : List ℕ} (rest : List ℕ) {a : Planned} {n : ℕ} {rows : List Row} (L : Lent room (length lent))
    (h : PlanIs m b start dest s lent out a) (e : n ≡ planned_rows a) (R : RowsRead (out ++ rest) n rows) where
  module _ (was : List Row) (l : length was ≡ room) where
    refused : (k : ℕ) {i : ℕ} → 0 < k → Planning k 0 i lent out a → Planning k 0 i was (put n rows was) a
    refused k p x = record { code = x.code; arrives = x.arrives; counts = x.counts; holds = put_none rows was (e ∙ no_stays k p x) }

    module _ (M : GoodMap m) (G : GoodBook (map_yard m) b) (on : dest < (map_yard m).places) {plan : List Stay} (C : Chosen (map_yard m) (rows_of b) start dest s plan) where
      rules : YardRules (map_yard m)
      rules = yard_rules M.rules

      abbrev Done : Type 0
      Done = Planning 0 (arrival plan) (length plan) (over was (run_rows 0 plan)) (put n rows was) a

      done : length plan ≤ records lent → PlanDone plan lent out a → Done
      done k D =
          let P = (chosen_best (map_yard m) (rows_of b) start dest s rules.from_on on G.room C).0 in
          let c : n ≡ length (run_rows 0 plan) = e ∙ ap₂ rows_done D.code D.counts ∙ sym (run_length 0 plan) in
          let r : take n rows ≡ run_rows 0 plan =
          read_all (run_rows 0 plan) lent rest (run_fits 0 (omega arith) plan (stays_fit m b M P)) c (omega (arith, lent_few L, run_length 0 plan))
          (subst (λ (o : List ℕ). RowsRead (o ++ rest) n rows) D.holds R) in
          record { code = D.code; arrives = D.arrives; counts = D.counts; holds = put_all rows (run_rows 0 plan) was c r }

      listed : Unless (length plan ≤ records lent) (PlanRefused 6 lent out a) (PlanDone plan lent out a) → Unless (length plan ≤ length was) (PlanRefused 6 was (put n rows was) a) Done
      listed (inl x) =
          let f = chosen_few (map_yard m) (rows_of b) rules start dest s C in
          inl (λ k. x.0 (lent_enough (length plan) L (omega (arith, f, M.rules.few, (book_formed G).counted.few)) (omega arith)), refused 6 (omega arith) x.1)
      listed (inr y) = inr (omega (arith, y.0, lent_room L), done y.0 y.1)

    plan_says : PlanRecords m b start dest s was (put n rows was) a
    plan_says =
        checked_as (same_papers (papers_of m b)) (λ n i g. refused n g.some) (λ M G.
        instead (refused 3 (omega arith)) (λ on. instead (refused 4 (omega arith)) (λ d. instead (refused 5 (omega arith)) (λ some x.
        (x.0, x.1, listed M G on.1 x.1 x.2))))) h

  pub plan_found : PlanFound m b start dest s room (record { rows = rows; count = n; answer = a })
  plan_found = record {
    few = omega (arith, plan_within h, lent_few L);
    fits = omega (arith, plan_within h, lent_room L);
    says = plan_says;
  }

-- the plan written to the front of a list of 1,280 records
module _ {m : Map} {b : Book} {start dest s room n : ℕ} (L : Lent room n) (z : List ℕ) (l : length z ≡ list_size) {p : List ℕ} {a : Planned} {k : ℕ}
    (h : PlanIs m b start dest s (take n z) p a) (e : k ≡ planned_rows a) where
  pub plan_readable : length p ≡ length (take n z) → (k ≤ plan_limit) × (row_size * k ≤ length (p ++ drop n z))
  plan_readable q =
      let w = plan_within h in
      let f = lent_few (lent_front L z l) in
      (omega (arith, w, f), omega (arith, w, f, lent_back L z l p q))

  pub plan_front : {rows : List Row} → RowsRead (p ++ drop n z) k rows → PlanFound m b start dest s room (record { rows = rows; count = k; answer = a })
  plan_front R = plan_found (drop n z) (lent_front L z l) h e R

-- ---- page

-- what is found for a page: over any list with this room it is the answer of the call on records
pub record PageFound (m : Map) (b : Book) (size : ℕ) (k : Key) (room : ℕ) (f : Found Shown) : Type 0 where
  pub few : f.count ≤ plan_limit
  pub fits : f.count ≤ room
  pub says : (was : List Row) → length was ≡ room → PageRecords m b size k was (put f.count f.rows was) f.answer

-- a page's rows stand in the book, and a good book's rows fit
page_fits : {m : Map} {b : Book} (size : ℕ) (k : Key) → GoodMap m → GoodBook (map_yard m) b → (j : ℕ) → j < length (page_rows size k (rows_of b)) → RowFits (row_at (page_rows size k (rows_of b)) j)
page_fits {m} {b} size k M G j h =
    let page : List Row = page_rows size k (rows_of b) in
    let r : Row = row_at page j in
    let n : Memᴰ r (after k (rows_of b)) = rw (take-append-drop size (after k (rows_of b))) at (mathlib.Core.List.Memᴰ.append_left (drop size (after k (rows_of b))) (index_mem no_row page j h)) in
    row_fits M.rules.few (book_formed G) r (mem_keep (λ x. lessb k (row_key x)) r (rows_of b) n).0

module _ {m : Map} {b : Book} {size room : ℕ} {k : Key} {lent out : List ℕ} (rest : List ℕ) {a : Paged} {n : ℕ} {rows : List Row} (L : Lent room (length lent))
    (h : PageIs m b size k lent out a) (e : n ≡ paged_rows a) (R : RowsRead (out ++ rest) n rows) where
  module _ (was : List Row) (l : length was ≡ room) where
    not_shown : (j : ℕ) {i : ℕ} → 0 < j → PagingIs j i false first_key lent out a → PagingIs j i false first_key was (put n rows was) a
    not_shown j p x = record { code = x.code; counts = x.counts; says = x.says; hands = x.hands; holds = put_none rows was (e ∙ no_rows j p x) }

    abbrev page : List Row
    page = page_rows size k (rows_of b)

    abbrev Shows : Type 0
    Shows = PagingIs 0 (length page) (page_more size k (rows_of b)) (last_key k page) (over was page) (put n rows was) a

    module _ (M : GoodMap m) (G : GoodBook (map_yard m) b) (s : size ≤ page_limit) where
      shows : size ≤ records lent → PageDone (rows_of b) size k lent out a → Shows
      shows q D =
          let c : n ≡ length page = e ∙ ap₂ rows_done D.code D.counts in
          let r : take n rows ≡ page =
          read_all page lent rest (page_fits size k M G) c (omega (arith, lent_few L, page_short size k (rows_of b)))
          (subst (λ (o : List ℕ). RowsRead (o ++ rest) n rows) D.holds R) in
          record { code = D.code; counts = D.counts; says = D.says; hands = D.hands; holds = put_all rows page was c r }

      paged : Unless (size ≤ records lent) (PageRefused 6 lent out a) (PageDone (rows_of b) size k lent out a) → Unless (size ≤ length was) (PageRefused 6 was (put n rows was) a) Shows
      paged (inl x) = inl (λ q. x.0 (lent_enough size L (omega arith) (omega arith)), not_shown 6 (omega arith) x.1)
      paged (inr y) = inr (omega (arith, y.0, lent_room L), shows y.0 y.1)

    page_says : PageRecords m b size k was (put n rows was) a
    page_says =
        checked_as (same_papers (papers_of m b)) (λ n i g. not_shown n g.some)
        (λ M G. instead (not_shown 10 (omega arith)) (λ s. instead (not_shown 11 (omega arith)) (λ c. paged M G s.1))) h

  pub page_found : PageFound m b size k room (record { rows = rows; count = n; answer = a })
  page_found = record {
    few = omega (arith, (page_within h).0, lent_few L);
    fits = omega (arith, (page_within h).0, lent_room L);
    says = page_says;
  }

-- the page written to the front of a list of 1,280 records
module _ {m : Map} {b : Book} {size room n : ℕ} {key : Key} (L : Lent room n) (z : List ℕ) (l : length z ≡ list_size) {p : List ℕ} {a : Paged} {k : ℕ}
    (h : PageIs m b size key (take n z) p a) (e : k ≡ paged_rows a) where
  pub page_readable : length p ≡ length (take n z) → (k ≤ plan_limit) × (row_size * k ≤ length (p ++ drop n z))
  page_readable q =
      let w = (page_within h).0 in
      let f = lent_few (lent_front L z l) in
      (omega (arith, w, f), omega (arith, w, f, lent_back L z l p q))

  pub page_front : {rows : List Row} → RowsRead (p ++ drop n z) k rows → PageFound m b size key room (record { rows = rows; count = k; answer = a })
  page_front R = page_found (drop n z) (lent_front L z l) h e R
