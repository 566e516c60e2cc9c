-- No call has a second answer: two answers that both meet a call's contract are equal. The order of the refusals decides which clause
-- holds, the same for both; each clause fixes every number returned and all that is left behind; and the chosen plan has no second.
use Rattle.std.specs.Prelude.{ℕ, ◌+◌, ◌≤◌, ◌<◌, ◌≡◌, Bool, false, List, length}
use Rattle.std.proofs.Common.{sym, ap, subst, ◌∙◌}
use Rattle.rules.specs.declared.Row.{Row}
use Rattle.rules.specs.declared.Map.{Map}
use Rattle.rules.specs.declared.Book.{Book}
use Rattle.rules.specs.Limits.{row_limit}
use Rattle.rules.specs.Map.{GoodMap, map_yard}
use Rattle.rules.specs.Rows.{Key, first_key, bit}
use Rattle.rules.specs.Plan.{Stay, arrival, run_rows}
use Rattle.rules.specs.Book.{rows_of}
use Rattle.rules.specs.Chosen.{Chosen}
use Rattle.rules.specs.Bytes.{records, written}
use Rattle.rules.specs.Gate.{Unless, Papers, Checked}
use Rattle.rules.specs.GateLaws.{both, checked_both}
use Rattle.rules.specs.Answer.{Planned, Booking, Cancelling, Paged, Planning, PlanRefused, PlanAnswers, BookingIs, BookRefused, BookDone, BookIs, CancellingIs, CancelIs, PagingIs, PageAnswers, answer_number, planned_arrival, planned_count, paged_count, paged_more}
use Rattle.rules.specs.Portal.{slice_papers, one_number, PortalPlan, PortalPage}
use Rattle.lanes.specs.Yards.{yard_rules}
use Rattle.lanes.specs.Chosen.{no_second}
use Rattle.unique.specs.Values.{planned_same, booked_same, cancelled_same, paged_same}

-- ---- page

pub page_same : {A : Type 0} {n c : ℕ} {more : Bool} {k : Key} {list out out' : List A} {r r' : Paged} → PagingIs n c more k list out r → PagingIs n c more k list out' r' → (r ≡ r') × (out ≡ out')
page_same {r} {r'} p q = (
  paged_same r r' (p.code ∙ sym q.code) (p.counts ∙ sym q.counts) (p.says ∙ sym q.says) (p.hands ∙ sym q.hands),
  p.holds ∙ sym q.holds,
)

pub no_second_page : {A : Type 0} (g : Papers) (room : ℕ) (after : List Row → List A) (size : ℕ) (k : Key) (was out out' : List A) (r r' : Paged)
    → Checked g (λ n i. PagingIs n i false first_key was out r) (PageAnswers room after g.yard g.rows size k was out r)
    → Checked g (λ n i. PagingIs n i false first_key was out' r') (PageAnswers room after g.yard g.rows size k was out' r')
    → (r ≡ r') × (out ≡ out')
no_second_page g room after size k was out out' r r' =
    checked_both (λ n i. page_same) (λ _ _. both page_same (λ _. both page_same (λ _. both page_same (λ _. page_same))))

-- ---- plan

pub plan_same : {A : Type 0} {n a c : ℕ} {list out out' : List A} {r r' : Planned} → Planning n a c list out r → Planning n a c list out' r' → (r ≡ r') × (out ≡ out')
plan_same {r} {r'} p q = (
  planned_same r r' (p.code ∙ sym q.code) (p.arrives ∙ sym q.arrives) (p.counts ∙ sym q.counts),
  p.holds ∙ sym q.holds,
)

-- the map's rules give durations of at least a second
pub no_second_plan : {A : Type 0} (g : Papers) (room : ℕ) (after : List Row → List A) (start dest s : ℕ) (was out out' : List A) (r r' : Planned)
    → (g.map_good → (p : ℕ) → 0 < g.yard.dur p)
    → Checked g (λ n i. Planning n 0 i was out r) (PlanAnswers room after g.yard g.rows start dest s was out r)
    → Checked g (λ n i. Planning n 0 i was out' r') (PlanAnswers room after g.yard g.rows start dest s was out' r')
    → (r ≡ r') × (out ≡ out')
no_second_plan {A} g room after start dest s was out out' r r' long =
    checked_both (λ n i. plan_same) (λ M _. both plan_same (λ _. both plan_same (λ _. both plan_same (λ _. chosen M))))
  where
    Listed : List A → Planned → List Stay → Type 0
    Listed o x plan = Unless (length plan ≤ room) (PlanRefused 6 was o x) (Planning 0 (arrival plan) (length plan) (after (run_rows 0 plan)) o x)

    Given : List A → Planned → Type 0
    Given o x = (plan : List Stay) × Chosen g.yard g.rows start dest s plan × Listed o x plan

    chosen : g.map_good → Given out r → Given out' r' → (r ≡ r') × (out ≡ out')
    chosen M x y =
        let e : y.0 ≡ x.0 = no_second g.yard g.rows start dest s (long M) y.1 x.1 in
        both plan_same (λ _. plan_same) x.2 (subst (Listed out' r') e y.2)

-- ---- book

pub booking_same : {n k a c : ℕ} {book : Book} {r r' : Booking} → BookingIs n k a c book r → BookingIs n k a c book r' → r ≡ r'
booking_same {r} {r'} p q =
    let a = booked_same r.answer r'.answer (p.code ∙ sym q.code) (p.issues ∙ sym q.issues) (p.arrives ∙ sym q.arrives) (p.counts ∙ sym q.counts) in
    let b = p.holds ∙ sym q.holds in
    λ i. record { book = b i; answer = a i }

pub no_second_booking : (m : Map) (b : Book) (start dest s : ℕ) (r r' : Booking) → BookIs m b start dest s r → BookIs m b start dest s r' → r ≡ r'
no_second_booking m b start dest s r r' =
    checked_both (λ n i. booking_same) (λ M _.
    both booking_same (λ _. both booking_same (λ _. both booking_same (λ _. both booking_same (λ _. chosen M)))))
  where
    Entered : Booking → List Stay → Type 0
    Entered x plan = Unless (b.count + length plan ≤ row_limit) (BookRefused 7 b x) (BookDone plan b x)

    Given : Booking → Type 0
    Given x = (plan : List Stay) × Chosen (map_yard m) (rows_of b) start dest s plan × Entered x plan

    chosen : GoodMap m → Given r → Given r' → r ≡ r'
    chosen M x y =
        let e : y.0 ≡ x.0 = no_second (map_yard m) (rows_of b) start dest s (yard_rules M.rules).long y.1 x.1 in
        both booking_same (λ _. booking_same) x.2 (subst (Entered r') e y.2)

-- ---- cancel

pub cancelling_same : {n c : ℕ} {book : Book} {r r' : Cancelling} → CancellingIs n c book r → CancellingIs n c book r' → r ≡ r'
cancelling_same {r} {r'} p q =
    let a = cancelled_same r.answer r'.answer (p.code ∙ sym q.code) (p.counts ∙ sym q.counts) in
    let b = p.holds ∙ sym q.holds in
    λ i. record { book = b i; answer = a i }

pub no_second_cancelling : (m : Map) (b : Book) (ticket : ℕ) (r r' : Cancelling) → CancelIs m b ticket r → CancelIs m b ticket r' → r ≡ r'
no_second_cancelling m b ticket r r' = checked_both (λ n i. cancelling_same) (λ _ _. both cancelling_same (λ _. cancelling_same))

-- ---- the portal's two

pub no_second_portal_plan : (map book : List ℕ) (start dest s : ℕ) (was out out' : List ℕ) (r r' : ℕ)
    → PortalPlan map book start dest s was out r → PortalPlan map book start dest s was out' r' → (r ≡ r') × (out ≡ out')
no_second_portal_plan map book start dest s was out out' r r' p q =
    let e = no_second_plan (slice_papers map book) (records was) (λ l. written l was) start dest s was out out' p.answer q.answer (λ M. (yard_rules M.rules).long) p.says q.says in
    (p.result ∙ ap (λ a. one_number (answer_number a) (planned_arrival a) (planned_count a)) e.0 ∙ sym q.result, e.1)

pub no_second_portal_page : (map book : List ℕ) (size : ℕ) (k : Key) (was out out' : List ℕ) (r r' : ℕ)
    → PortalPage map book size k was out r → PortalPage map book size k was out' r' → (r ≡ r') × (out ≡ out')
no_second_portal_page map book size k was out out' r r' p q =
    let e = no_second_page (slice_papers map book) (records was) (λ l. written l was) size k was out out' p.answer q.answer p.says q.says in
    (p.result ∙ ap (λ a. one_number (answer_number a) (bit (paged_more a)) (paged_count a)) e.0 ∙ sym q.result, e.1)
