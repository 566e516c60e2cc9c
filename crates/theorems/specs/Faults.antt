-- What a call's number says of map and book: 0 or a number of the calls' own is given exactly where both are good; any other tells what is wrong, and its count is the
-- row.
use Rattle.std.specs.Prelude.{ℕ, ◌≤◌, ◌≡◌, ◌⊎◌, List}
use Rattle.std.proofs.Common.{sym, subst, ◌∙◌, inl, inr, ⊎_elim, arith}
use Rattle.rules.specs.declared.Row.{Row}
use Rattle.rules.specs.declared.Map.{Map}
use Rattle.rules.specs.declared.Book.{Book}
use Rattle.rules.specs.Map.{Yard}
use Rattle.rules.specs.Rows.{Key}
use Rattle.rules.specs.Fault.{Fault}
use Rattle.rules.specs.Fault.Fault.{miscounted, unrising, broken, overfull, barred}
use Rattle.rules.specs.Gate.{Papers, papers_of, BookGood, Checked}
use Rattle.rules.specs.Gate.Checked.{bad_map as map-refused, bad_book as book_refused, sound}
use Rattle.rules.specs.GateLaws.{unless, fault_unique, fault_breaks, at_gate}
use Rattle.rules.specs.Answer.{Planned, Paged, Booking, Cancelling, PlanSays, answer_number, planned_count, BookIs, booked_count, CancelIs, cancelled_count, PageSays, paged_count}

-- done, or refused by one of the calls' own numbers
abbrev pub Own : ℕ → Type 0
Own n = (n ≡ 0) ⊎ ((3 ≤ n) × (n ≤ 12))

-- what an answer with number n and count i says of a map and a book
pub record Judged (g : Papers) (n i : ℕ) : Type 0 where
  pub own_good : Own n → g.map_good × BookGood g
  pub good_own : g.map_good → BookGood g → Own n
  pub one_bad : n ≡ 1 → g.map_good → ⊥
  pub bad_one : (g.map_good → ⊥) → (n ≡ 1) × (i ≡ 0)
  pub told_fault : (n ≡ 2) ⊎ (13 ≤ n) → g.map_good × Fault g.counted g.yard g.rows n i
  pub fault_told : g.map_good → {m j : ℕ} → Fault g.counted g.yard g.rows m j → (n ≡ m) × (i ≡ j)

-- none of these numbers is 1
not_one : {counts : Type 0} {Y : Yard} {rows : List Row} {n i : ℕ} → Fault counts Y rows n i → n ≡ 1 → ⊥
not_one (miscounted f) e = omega arith
not_one (unrising c F) e = omega arith
not_one (broken c R B) e = omega arith
not_one (overfull c R W F) e = omega arith
not_one (barred c R W M F) e = omega arith

module _ {g : Papers} {refused : ℕ → ℕ → Type 0} {rest : Type 0} (n i : ℕ) (tells : (m j : ℕ) → refused m j → (n ≡ m) × (i ≡ j)) (own : rest → Own n) where
  judged : Checked g refused rest → Judged g n i
  judged (map-refused f x) =
      let e = (tells 1 0 x).0 in
      record {
        own_good = λ o. absurd (⊎_elim (λ (z : n ≡ 0). omega arith) (λ (z : (3 ≤ n) × (n ≤ 12)). omega (arith, z.0)) o);
        good_own = λ M. absurd (f M);
        one_bad = λ _ M. f M;
        bad_one = λ _. tells 1 0 x;
        told_fault = λ o. absurd (⊎_elim (λ (z : n ≡ 2). omega arith) (λ (z : 13 ≤ n). omega arith) o);
        fault_told = λ M. absurd (f M);
      }
  judged (book_refused {n = m} {i = j} M F x) =
      let e = tells m j x in
      let a = at_gate g F in
      record {
        own_good = λ o. absurd (⊎_elim (λ (z : n ≡ 0). omega (arith, a.some, e.0))
            (λ (z : (3 ≤ n) × (n ≤ 12)). a.apart (omega (arith, z.0, e.0)) (omega (arith, z.1, e.0))) o);
        good_own = λ _ G. absurd (fault_breaks F G);
        one_bad = λ z. absurd (not_one F (sym e.0 ∙ z));
        bad_one = λ f. absurd (f M);
        told_fault = λ _. (M, subst (λ (y : ℕ). Fault g.counted g.yard g.rows y i) (sym e.0) (subst (Fault g.counted g.yard g.rows m) (sym e.1) F));
        fault_told = λ _ Z. let u = fault_unique F Z in (e.0 ∙ u.0, e.1 ∙ u.1);
      }
  judged (sound M G x) =
      let o = own x in
      record {
        own_good = λ _. (M, G);
        good_own = λ _ _. o;
        one_bad = λ e. absurd (⊎_elim (λ (z : n ≡ 0). omega arith) (λ (z : (3 ≤ n) × (n ≤ 12)). omega (arith, z.0)) o);
        bad_one = λ f. absurd (f M);
        told_fault = λ t. absurd (⊎_elim (λ (z : n ≡ 0). ⊎_elim (λ (y : n ≡ 2). omega arith) (λ (y : 13 ≤ n). omega arith) t)
            (λ (z : (3 ≤ n) × (n ≤ 12)). ⊎_elim (λ (y : n ≡ 2). omega (arith, z.0)) (λ (y : 13 ≤ n). omega (arith, z.1)) t) o);
        fault_told = λ _ Z. absurd (fault_breaks Z G);
      }

-- ---- the four calls, on any form of map and book

own_at : {n : ℕ} (k : ℕ) → 3 ≤ k → k ≤ 12 → n ≡ k → Own n
own_at k a b e = inr (omega arith, omega arith)

module _ {g : Papers} where
  pub plan_judged : {start dest s : ℕ} {was out : List ℕ} {r : Planned} → PlanSays g start dest s was out r → Judged g (answer_number r) (planned_count r)
  plan_judged {r = r} = judged (answer_number r) (planned_count r) (λ m j x. (x.code, x.counts))
      (unless (λ x. own_at 3 (omega arith) (omega arith) x.code) (λ _. unless (λ x. own_at 4 (omega arith) (omega arith) x.code)
      (λ _. unless (λ x. own_at 5 (omega arith) (omega arith) x.code) (λ _ c. unless (λ x. own_at 6 (omega arith) (omega arith) x.code) (λ _ x. inl x.code) c.2))))

  pub page_judged : {size : ℕ} {k : Key} {was out : List ℕ} {r : Paged} → PageSays g size k was out r → Judged g (answer_number r) (paged_count r)
  page_judged {r = r} = judged (answer_number r) (paged_count r) (λ m j x. (x.code, x.counts))
      (unless (λ x. own_at 10 (omega arith) (omega arith) x.code) (λ _. unless (λ x. own_at 11 (omega arith) (omega arith) x.code)
      (λ _. unless (λ x. own_at 6 (omega arith) (omega arith) x.code) (λ _ x. inl x.code))))

module _ {m : Map} {b : Book} where
  pub book_judged : {start dest s : ℕ} {r : Booking} → BookIs m b start dest s r → Judged (papers_of m b) (answer_number r.answer) (booked_count r.answer)
  book_judged {r = r} = judged (answer_number r.answer) (booked_count r.answer) (λ m j x. (x.code, x.counts))
      (unless (λ x. own_at 3 (omega arith) (omega arith) x.code) (λ _. unless (λ x. own_at 4 (omega arith) (omega arith) x.code)
      (λ _. unless (λ x. own_at 8 (omega arith) (omega arith) x.code) (λ _. unless (λ x. own_at 5 (omega arith) (omega arith) x.code)
      (λ _ c. unless (λ x. own_at 7 (omega arith) (omega arith) x.code) (λ _ x. inl x.code) c.2)))))

  pub cancel_judged : {ticket : ℕ} {r : Cancelling} → CancelIs m b ticket r → Judged (papers_of m b) (answer_number r.answer) (cancelled_count r.answer)
  cancel_judged {r = r} = judged (answer_number r.answer) (cancelled_count r.answer) (λ m j x. (x.code, x.counts))
      (unless (λ x. own_at 9 (omega arith) (omega arith) x.code) (λ _ x. inl x.code))
