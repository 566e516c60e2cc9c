-- What plan and page leave in the first n of eight records, on the small barn beside tickets 1 and 2. The table of cases says which plan is chosen,
-- and the page's rows are computed; a list that is too short is refused with 6 and stays as it was, and in one that is long enough the records
-- past the rows keep their values.
use Rattle.std.specs.Prelude.{ℕ, ◌≤◌, ◌<◌, ◌≡◌, true, List, [], ◌∷◌, ◌++◌, length, take, drop, replicate}
use Rattle.std.proofs.Common.{sym, ap, ap₂, subst, ◌∙◌, ⊎_elim, append_assoc, arith, take-append-drop, length-take-le}
use Rattle.std.proofs.lemmas.List.{drop-append-le}
use Rattle.laws.specs.Lists.{index_mem}
use Rattle.rules.specs.declared.Row.{Row}
use Rattle.rules.specs.declared.Map.{Map}
use Rattle.rules.specs.declared.Book.{Book}
use Rattle.rules.specs.Map.{map_yard}
use Rattle.rules.specs.Rows.{row, Key, first_key, lessb}
use Rattle.rules.specs.Plan.{Stay, arrival, run_rows}
use Rattle.rules.specs.Book.{GoodBook, book_of}
use Rattle.rules.specs.Gate.{Unless}
use Rattle.rules.specs.GateLaws.{past, passed}
use Rattle.rules.specs.Answer.{Planned, Paged, Planning, PlanRefused, PlanAnswers, PlanRecords, answer_number, planned_arrival, planned_rows}
use Rattle.rules.specs.Answer.{rows_done, PagingIs, PageRefused, PageRecords, paged_rows, paged_more, over}
use Rattle.keeping.specs.Books.{rows_of_book, good_book}
use Rattle.cases.specs.Maps.{yard, arrays, barn_good}
use Rattle.cases.specs.Past.{rows_now, book_now}
use Rattle.cases.specs.Case.{Plans}
use Rattle.cases.specs.Case.Case.{plans}
use Rattle.cases.specs.Table.{barn, both, table, table_holds, rows_both}

abbrev pub barn_map : Map
barn_map = arrays barn

-- eight records before the call, and after a plan and a page that fit
abbrev pub marks : List Row
marks = replicate 8 (row 9 9 9 9 9)

abbrev pub planned : List Row
planned = row 0 10 0 30 1 ∷ row 1 30 0 50 3 ∷ row 3 50 0 60 3 ∷ replicate 5 (row 9 9 9 9 9)

abbrev pub paged : List Row
paged = row 0 0 1 10 1 ∷ row 0 0 2 10 2 ∷ replicate 6 (row 9 9 9 9 9)

-- the rows of tickets 1 and 2
abbrev pub both_rows : List Row
both_rows = row 0 0 1 10 1 ∷ row 0 0 2 10 2 ∷ row 1 10 1 30 3 ∷ row 2 10 2 40 3 ∷ row 3 30 1 40 3 ∷ row 3 40 2 50 3 ∷ []

abbrev pub both_book : Book
both_book = book_of both_rows 3

book_is : book_now both ≡ both_book
book_is = ap (λ (rows : List Row). book_of rows 3) rows_both

-- ---- eight records of which the first n were lent

whole : (M rows out : List Row) (n : ℕ) → take n rows ≡ out → drop n rows ≡ drop n M → rows ≡ out ++ drop n M
whole M rows out n e f = sym (take-append-drop n rows) ∙ ap (λ (l : List Row). l ++ drop n rows) e ∙ ap (λ (l : List Row). out ++ l) f

whole_same : (M rows : List Row) (n : ℕ) → take n rows ≡ take n M → drop n rows ≡ drop n M → rows ≡ M
whole_same M rows n e f = whole M rows (take n M) n e f ∙ take-append-drop n M

whole_over : (M P rows : List Row) (n : ℕ) → length P ≤ n → n ≤ length M → take n rows ≡ over (take n M) P → drop n rows ≡ drop n M → rows ≡ over M P
whole_over M P rows n h k e f =
    let l : length P ≤ length (take n M) = (let z = length-take-le n M k in omega arith) in
    whole M rows (over (take n M) P) n e f
    ∙ append_assoc P (drop (length P) (take n M)) (drop n M)
    ∙ ap (λ (t : List Row). P ++ t) (sym (drop-append-le (length P) (take n M) (drop n M) l) ∙ ap (drop (length P)) (take-append-drop n M))

-- ---- plan

abbrev way : List Stay
way = record { place = 0; entry = 10; exit = 30 } ∷ record { place = 1; entry = 30; exit = 50 } ∷ record { place = 3; entry = 50; exit = 60 } ∷ []

way_planned : Plans barn both 0 3 10 way 60
way_planned = table_holds (plans both 0 3 10 way 60) (index_mem (plans both 0 3 10 way 60) table 5 (omega arith))

good_both : GoodBook (map_yard barn_map) both_book
good_both = subst (GoodBook (map_yard barn_map)) book_is (good_book way_planned.formed)

abbrev PlanLeft : List Row → List Row → Planned → List Stay → Type 0
PlanLeft was out r plan = Unless (length plan ≤ length was) (PlanRefused 6 was out r) (Planning 0 (arrival plan) (length plan) (over was (run_rows 0 plan)) out r)

plan_left : {was out : List Row} {r : Planned} → PlanRecords barn_map both_book 0 3 10 was out r → PlanLeft was out r way
plan_left {was} {out} {r} h =
    let A = way_planned.answer in
    let a : PlanAnswers (length was) (over was) (yard barn) (rows_now both) 0 3 10 was out r =
    subst (λ (rows : List Row). PlanAnswers (length was) (over was) (yard barn) rows 0 3 10 was out r) (rows_of_book both_rows 3 ∙ sym rows_both) (passed (barn_good barn) good_both h) in
    let x = past (way, A.permitted) (past (omega arith) (past (omega arith, omega arith) a)) in
    subst (PlanLeft was out r) (A.only x.0 x.1) x.2

pub record PlanOn (n : ℕ) (rows : List Row) (a : Planned) : Type 0 where
  pub short_rows : n < 3 → rows ≡ marks
  pub short_code : n < 3 → answer_number a ≡ 6
  pub rows_are : 3 ≤ n → rows ≡ planned
  pub code : 3 ≤ n → answer_number a ≡ 0
  pub arrives : 3 ≤ n → planned_arrival a ≡ 60
  pub counts : 3 ≤ n → planned_rows a ≡ 3

pub plan_on : {n : ℕ} {rows : List Row} {a : Planned} → n ≤ 8 → PlanRecords barn_map both_book 0 3 10 (take n marks) (take n rows) a → drop n rows ≡ drop n marks → PlanOn n rows a
plan_on {n} {rows} {a} k h f = record {
  short_rows = λ s. whole_same marks rows n (short s).holds f;
  short_code = λ s. (short s).code;
  rows_are = λ g. whole_over marks (run_rows 0 way) rows n g k (done g).holds f;
  code = λ g. (done g).code;
  arrives = λ g. (done g).arrives ∙ way_planned.arrives;
  counts = λ g. ap₂ rows_done (done g).code (done g).counts;
}
  where
    long : length (take n marks) ≡ n
    long = length-take-le n marks k

    short : n < 3 → PlanRefused 6 (take n marks) (take n rows) a
    short s = ⊎_elim (λ x. x.1) (λ y. absurd (omega (arith, y.0, long))) (plan_left h)

    done : 3 ≤ n → Planning 0 (arrival way) 3 (over (take n marks) (run_rows 0 way)) (take n rows) a
    done g = ⊎_elim (λ x. absurd (x.0 (omega (arith, long)))) (λ y. y.1) (plan_left h)

pub plan_shown : (m : Map) (b : Book) (was : List Row) {n : ℕ} {rows : List Row} {a : Planned} → m ≡ barn_map → b ≡ both_book → was ≡ marks → n ≤ 8
    → PlanRecords m b 0 3 10 (take n was) (take n rows) a × (drop n rows ≡ drop n was) → PlanOn n rows a
plan_shown m b was {n} {rows} {a} em eb ew k h =
    let one = subst (λ (m : Map). PlanRecords m b 0 3 10 (take n was) (take n rows) a) em h.0 in
    let two = subst (λ (b : Book). PlanRecords barn_map b 0 3 10 (take n was) (take n rows) a) eb one in
    plan_on k (subst (λ (l : List Row). PlanRecords barn_map both_book 0 3 10 (take n l) (take n rows) a) ew two) (h.1 ∙ ap (drop n) ew)

-- ---- page

page_left : {was out : List Row} {r : Paged} → PageRecords barn_map both_book 2 first_key was out r
    → Unless (2 ≤ length was) (PageRefused 6 was out r) (PagingIs 0 2 true (record { place = 0; entry = 0; ticket = 2 }) (over was (row 0 0 1 10 1 ∷ row 0 0 2 10 2 ∷ [])) out r)
unfolding lessb
page_left {was} {out} {r} h = past (record { place = omega arith; entry = omega arith; ticket = omega arith }) (past (omega arith, omega arith) (passed (barn_good barn) good_both h))

pub record PageOn (n : ℕ) (rows : List Row) (a : Paged) : Type 0 where
  pub short_rows : n < 2 → rows ≡ marks
  pub short_code : n < 2 → answer_number a ≡ 6
  pub rows_are : 2 ≤ n → rows ≡ paged
  pub code : 2 ≤ n → answer_number a ≡ 0
  pub counts : 2 ≤ n → paged_rows a ≡ 2
  pub more : 2 ≤ n → paged_more a ≡ true

pub page_on : {n : ℕ} {rows : List Row} {a : Paged} → n ≤ 8 → PageRecords barn_map both_book 2 first_key (take n marks) (take n rows) a → drop n rows ≡ drop n marks → PageOn n rows a
page_on {n} {rows} {a} k h f = record {
  short_rows = λ s. whole_same marks rows n (short s).holds f;
  short_code = λ s. (short s).code;
  rows_are = λ g. whole_over marks (row 0 0 1 10 1 ∷ row 0 0 2 10 2 ∷ []) rows n g k (done g).holds f;
  code = λ g. (done g).code;
  counts = λ g. ap₂ rows_done (done g).code (done g).counts;
  more = λ g. (done g).says;
}
  where
    long : length (take n marks) ≡ n
    long = length-take-le n marks k

    short : n < 2 → PageRefused 6 (take n marks) (take n rows) a
    short s = ⊎_elim (λ x. x.1) (λ y. absurd (omega (arith, y.0, long))) (page_left h)

    done : 2 ≤ n → PagingIs 0 2 true (record { place = 0; entry = 0; ticket = 2 }) (over (take n marks) (row 0 0 1 10 1 ∷ row 0 0 2 10 2 ∷ [])) (take n rows) a
    done g = ⊎_elim (λ x. absurd (x.0 (omega (arith, long)))) (λ y. y.1) (page_left h)

pub page_shown : (m : Map) (b : Book) (key : Key) (was : List Row) {n : ℕ} {rows : List Row} {a : Paged} → m ≡ barn_map → b ≡ both_book → key ≡ first_key → was ≡ marks → n ≤ 8
    → PageRecords m b 2 key (take n was) (take n rows) a × (drop n rows ≡ drop n was) → PageOn n rows a
page_shown m b key was {n} {rows} {a} em eb ek ew k h =
    let one = subst (λ (m : Map). PageRecords m b 2 key (take n was) (take n rows) a) em h.0 in
    let two = subst (λ (b : Book). PageRecords barn_map b 2 key (take n was) (take n rows) a) eb one in
    let three = subst (λ (key : Key). PageRecords barn_map both_book 2 key (take n was) (take n rows) a) ek two in
    page_on k (subst (λ (l : List Row). PageRecords barn_map both_book 2 first_key (take n l) (take n rows) a) ew three) (h.1 ∙ ap (drop n) ew)
