-- How many rows plan and page count: no more than the caller's list has records, and a page no more than 64; none at a refusal. The count beside a refusal
-- is a row of the book or 0.
use Rattle.std.specs.Prelude.{ℕ, ◌+◌, ◌≤◌, ◌<◌, ◌≡◌, false, List, length}
use Rattle.std.proofs.Common.{ap₂, arith, length-take}
use Rattle.std.proofs.Math.Nat.{min-le_left}
use Rattle.rules.specs.declared.Row.{Row}
use Rattle.rules.specs.Limits.{row_limit, page_limit}
use Rattle.rules.specs.Rows.{Key, first_key}
use Rattle.rules.specs.Page.{after, page_rows}
use Rattle.rules.specs.Bytes.{records}
use Rattle.rules.specs.Gate.{Papers}
use Rattle.rules.specs.GateLaws.{unless, checked}
use Rattle.rules.specs.Answer.{Planned, Paged, rows_done, answer_number, planned_count, planned_rows, Planning, PlanRefused, PlanSays, paged_count, paged_rows, PagingIs, PageRefused, PageSays}
use Rattle.rules.specs.AnswerLaws.{none_done}

module _ {A : Type 0} {was out : List A} where
  pub no_stays : {r : Planned} (n : ℕ) {i : ℕ} → 0 < n → Planning n 0 i was out r → planned_rows r ≡ 0
  no_stays {r} n h x = none_done (answer_number r) (planned_count r) (omega (arith, x.code))

  pub no_rows : {r : Paged} (n : ℕ) {i : ℕ} → 0 < n → PagingIs n i false first_key was out r → paged_rows r ≡ 0
  no_rows {r} n h x = none_done (answer_number r) (paged_count r) (omega (arith, x.code))

pub page_short : (size : ℕ) (k : Key) (rows : List Row) → length (page_rows size k rows) ≤ size
page_short size k rows = omega (arith, length-take size (after k rows), min-le_left size (length (after k rows)))

module _ {g : Papers} {was out : List ℕ} where
  pub plan_within : {start dest s : ℕ} {r : Planned} → PlanSays g start dest s was out r → planned_rows r ≤ records was
  plan_within {r = r} =
      checked (λ n i h. none n h.some) (λ _ _. unless (none 3 (omega arith)) (λ _. unless (none 4 (omega arith)) (λ _. unless (none 5 (omega arith)) (λ _ c.
      unless (none 6 (omega arith)) (λ h x. omega (arith, h, ap₂ rows_done x.code x.counts)) c.2))))
    where
      none : (n : ℕ) {i : ℕ} → 0 < n → Planning n 0 i was out r → planned_rows r ≤ records was
      none n h x = omega (arith, no_stays n h x)

  pub page_within : {size : ℕ} {k : Key} {r : Paged} → PageSays g size k was out r → (paged_rows r ≤ records was) × (paged_rows r ≤ page_limit)
  page_within {size} {k} {r} =
      checked (λ n i h. none n h.some) (λ _ _. unless (none 10 (omega arith)) (λ z. unless (none 11 (omega arith)) (λ _. unless (none 6 (omega arith)) (λ h x.
      let e = ap₂ rows_done x.code x.counts in
      let f = page_short size k g.rows in
      (omega (arith, h, e, f), omega (arith, z.1, e, f))))))
    where
      none : (n : ℕ) {i : ℕ} → 0 < n → PagingIs n i false first_key was out r → (paged_rows r ≤ records was) × (paged_rows r ≤ page_limit)
      none n h x = (omega (arith, no_rows n h x), omega (arith, no_rows n h x))

  -- with what a refusal counts
  pub plan_few : (g.counted → length g.rows ≤ row_limit) → {start dest s : ℕ} {r : Planned} → PlanSays g start dest s was out r → planned_count r ≤ row_limit + records was
  plan_few few {r = r} =
      checked (λ n i h x. omega (arith, x.counts, h.row row_limit few)) (λ _ _. unless none (λ _. unless none (λ _. unless none (λ _ c.
      unless none (λ h x. omega (arith, h, x.counts)) c.2))))
    where
      none : {n : ℕ} → PlanRefused n was out r → planned_count r ≤ row_limit + records was
      none x = omega (arith, x.counts)

  pub page_few : (g.counted → length g.rows ≤ row_limit) → {size : ℕ} {k : Key} {r : Paged} → PageSays g size k was out r → paged_count r ≤ row_limit
  page_few few {size} {k} {r} =
      checked (λ n i h x. omega (arith, x.counts, h.row row_limit few)) (λ _ _. unless none (λ z. unless none (λ _. unless none (λ _ x.
      omega (arith, z.1, x.counts, page_short size k g.rows)))))
    where
      none : {n : ℕ} → PageRefused n was out r → paged_count r ≤ row_limit
      none x = omega (arith, x.counts)
