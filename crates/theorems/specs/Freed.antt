-- What a cancellation gives back and what it keeps: the load of the ticket's rows is gone and no other, what was permitted stays permitted, the run
-- that was cancelled is permitted again, and the next ticket never falls.
use Rattle.std.specs.Prelude.{ℕ, suc, ◌+◌, ◌-◌, ◌≤◌, ◌<◌, ◌≡◌, refl, Bool, not, length}
use Rattle.std.proofs.Common.{sym, ap, ap₂, subst, ◌∙◌, ⊎_elim}
use Rattle.std.proofs.Math.Bool.{true, false}
use mathlib.Core.List.Memᴰ
use mathlib.Core.List.{List, [], ◌∷◌, Memᴰ}
use native.Mathlib.Omega.{arith}
use Rattle.laws.specs.Order.{eq_or_ne}
use Rattle.laws.specs.Tests.{not_both}
use Rattle.rules.specs.declared.Map.{Map}
use Rattle.rules.specs.declared.Book.{Book}
use Rattle.rules.specs.declared.Row.{Row}
use Rattle.rules.specs.Map.{Yard}
use Rattle.rules.specs.Rows.{Key, row_key, Less, Rising, load, choose, keep, insert_all}
use Rattle.rules.specs.RowLaws.{leads_fewer}
use Rattle.rules.specs.Plan.{Stay, stay_at, Permitted, run_rows}
use Rattle.rules.specs.Book.{WellFormed, Whole, of_ticket, other_ticket}
use Rattle.rules.specs.GateLaws.{unless, checked}
use Rattle.rules.specs.Answer.{Booking, Cancelling, BookIs, BookingIs, CancelIs, CancellingIs}
use Rattle.keeping.specs.OrderLaws.{less_trans, less_irrefl}
use Rattle.keeping.specs.Chains.{chain_below, rising_tail, rising_chain}
use Rattle.keeping.specs.Changes.{mem_keep, keep_rising, mem_all, all_old, all_new, AllNew, all_rising}
use Rattle.keeping.specs.Runs.{run_ticket, run_load, run_apart}
use Rattle.keeping.specs.Keeping.{cancel_rows, rows_cancel}
use Rattle.keeping.specs.Loads.{load_all, load_keep}
use Rattle.keeping.specs.Unbarred.{clear_fewer, run_clear}
use Rattle.lanes.specs.Yards.{YardRules}
use Rattle.rules.specs.Walk.{Others}
use Rattle.rules.specs.Walk.Others.{rests, plans, books, cancels, looks}

module _ (p t : ℕ) where
  split_choose : (b : Bool) (x : Row) (l other mine : List Row) → load l p t ≡ load other p t + load mine p t
      → load (x ∷ l) p t ≡ load (choose (not b) x other) p t + load (choose b x mine) p t
  unfolding load
  split_choose true x l other mine h = omega arith
  split_choose false x l other mine h = omega arith

  pub load_split : (k : ℕ) (rows : List Row) → load rows p t ≡ load (keep (other_ticket k) rows) p t + load (keep (of_ticket k) rows) p t
  unfolding load
  load_split k [] = omega arith
  load_split k (x ∷ rows) = split_choose (of_ticket k x) x rows (keep (other_ticket k) rows) (keep (of_ticket k) rows) (load_split k rows)

pub fewer_permit : {Y : Yard} {rows : List Row} {start dest s : ℕ} {plan : List Stay} (f : Row → Bool) → Permitted Y rows start dest s plan → Permitted Y (keep f rows) start dest s plan
fewer_permit {rows} {plan} f P = record {
  run = P.run;
  first_place = P.first_place;
  first_entry = P.first_entry;
  last_place = P.last_place;
  room = λ p t h. omega (arith, load_keep p t f rows, P.room p t h);
  exchange = λ i h l. P.exchange i h (leads_fewer (λ r m. (mem_keep f r rows m).0) l);
}

-- rows in key order are given by what they are
pub rising_same : (a b : List Row) → Rising a → Rising b → ((x : Row) → Memᴰ x a → Memᴰ x b) → ((x : Row) → Memᴰ x b → Memᴰ x a) → a ≡ b
rising_same [] [] R S f g = refl
rising_same [] (y ∷ b) R S f g = absurd (Memᴰ.not-nil (g y (Memᴰ.head refl)))
rising_same (x ∷ a) [] R S f g = absurd (Memᴰ.not-nil (f x (Memᴰ.head refl)))
rising_same (x ∷ a) (y ∷ b) R S f g = ap₂ (λ (z : Row) (l : List Row). z ∷ l) first (rising_same a b (rising_tail R) (rising_tail S) f' g')
  where
    above : (z : Row) → Memᴰ z a → Less (row_key x) (row_key z)
    above z = chain_below (rising_chain x a R)

    over : (z : Row) → Memᴰ z b → Less (row_key y) (row_key z)
    over z = chain_below (rising_chain y b S)

    first : x ≡ y
    first = ⊎_elim (λ (e : x ≡ y). e)
        (λ (m : Memᴰ x b). ⊎_elim (λ (e : y ≡ x). sym e) (λ (n : Memᴰ y a). absurd (less_irrefl (less_trans (over x m) (above y n)))) (Memᴰ.cases_cons (g y (Memᴰ.head refl))))
        (Memᴰ.cases_cons (f x (Memᴰ.head refl)))

    f' : (z : Row) → Memᴰ z a → Memᴰ z b
    f' z m = ⊎_elim (λ (e : z ≡ y). absurd (less_irrefl (subst (λ (w : Row). Less (row_key x) (row_key w)) (e ∙ sym first) (above z m)))) (λ n. n) (Memᴰ.cases_cons (f z (Memᴰ.tail m)))

    g' : (z : Row) → Memᴰ z b → Memᴰ z a
    g' z m = ⊎_elim (λ (e : z ≡ x). absurd (less_irrefl (subst (λ (w : Row). Less (row_key y) (row_key w)) (e ∙ first) (over z m)))) (λ n. n) (Memᴰ.cases_cons (g z (Memᴰ.tail m)))

-- a plan for its own first place, first entry and last place
abbrev pub PermittedRun : Yard → List Row → List Stay → Type 0
PermittedRun Y rows plan = Permitted Y rows (stay_at plan 0).place (stay_at plan (length plan - 1)).place (stay_at plan 0).entry plan

-- the run of a ticket is permitted beside the other rows of its book
module _ {Y : Yard} {rows : List Row} {t : ℕ} (rules : YardRules Y) (W : WellFormed Y rows t) (k : ℕ) (o : Whole Y rows k) where
  abbrev rest : List Row
  rest = keep (other_ticket k) rows

  abbrev new : List Row
  new = run_rows k o.plan

  parted : AllNew new rest
  parted = record {
    fresh = λ x m y d e. (cancel_rows k rows y d).1 (ap (λ (q : Key). q.ticket) e ∙ run_ticket k o.plan x m);
    apart = run_apart k rules o.plan o.is_plan;
  }

  joined : insert_all new rest ≡ rows
  joined = rising_same (insert_all new rest) rows (all_rising new rest (keep_rising (other_ticket k) rows W.rising) parted) W.rising
      (λ x m. ⊎_elim (λ (d : Memᴰ x new). o.booked x d) (λ (d : Memᴰ x rest). (cancel_rows k rows x d).0) (mem_all new x rest m))
      (λ x m. ⊎_elim (λ (e : x.ticket ≡ k). all_new new x rest (o.only x m e)) (λ (ne : x.ticket ≡ k → ⊥). all_old new x rest (rows_cancel k rows x (m, ne))) (eq_or_ne x.ticket k))

  pub run_permitted : PermittedRun Y rest o.plan
  run_permitted = record {
    run = o.is_plan;
    first_place = refl;
    first_entry = refl;
    last_place = λ i e. let n : i ≡ length o.plan - 1 = omega arith in ap (λ (j : ℕ). (stay_at o.plan j).place) n;
    room = λ p x h. omega (arith, load_all p x new rest, run_load k o.plan p x, ap (λ (l : List Row). load l p x) joined, W.room p x h);
    exchange = run_clear k rest o.plan moves (clear_fewer (λ r m. (cancel_rows k rows r m).0) o.booked W.exchange);
  }
    where
      moves : (i : ℕ) → suc i < length o.plan → (stay_at o.plan (suc i)).place ≡ (stay_at o.plan i).place → ⊥
      moves i h e = not_both (subst (λ (q : ℕ). Y.link (stay_at o.plan i).place q ≡ true) e (o.is_plan.goes i h)) (rules.no_loop (stay_at o.plan i).place)

pub booking_next : {m : Map} {b : Book} {start dest s : ℕ} {r : Booking} → BookIs m b start dest s r → b.next_ticket ≤ r.book.next_ticket
booking_next {b} {r} =
    checked (λ n i _. same) (λ M B. unless same (λ on. unless same (λ d. unless same (λ t. unless same (λ some c. unless same (λ fits x. up x refl) c.2)))))
  where
    same : {n k a c : ℕ} → BookingIs n k a c b r → b.next_ticket ≤ r.book.next_ticket
    same x = omega (arith, ap (λ (z : Book). z.next_ticket) x.holds)

    up : {n k a c : ℕ} {after : Book} → BookingIs n k a c after r → after.next_ticket ≡ b.next_ticket + 1 → b.next_ticket ≤ r.book.next_ticket
    up x e = omega (arith, e, ap (λ (z : Book). z.next_ticket) x.holds)

pub cancelling_next : {m : Map} {b : Book} {ticket : ℕ} {r : Cancelling} → CancelIs m b ticket r → r.book.next_ticket ≡ b.next_ticket
cancelling_next {b} {r} = checked (λ n i _. same) (λ M B. unless same (λ known x. ap (λ (z : Book). z.next_ticket) x.holds))
  where
    same : {n c : ℕ} → CancellingIs n c b r → r.book.next_ticket ≡ b.next_ticket
    same x = ap (λ (z : Book). z.next_ticket) x.holds

pub others_next : {m : Map} {b c : Book} → Others m b c → b.next_ticket ≤ c.next_ticket
others_next rests = omega arith
others_next (plans x o) = others_next o
others_next (books x o) = omega (arith, booking_next x, others_next o)
others_next (cancels x o) = omega (arith, cancelling_next x, others_next o)
others_next (looks x o) = others_next o
