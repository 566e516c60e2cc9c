-- A booking and a cancellation leave a well-formed book well formed. The new rows have a ticket of their own, so that the other tickets'
-- rows are what they were; load and exchange hold by what the plan was permitted for. A cancellation only takes a whole ticket's rows away.
use Rattle.std.specs.Prelude.{◌≡◌, ◌⊎◌, ℕ, ◌+◌, ◌<◌, ◌≤◌, length, eqb}
use Rattle.std.proofs.Common.{sym, ap, subst, ◌∙◌, inl, inr, ⊎_elim, arith, ne_eqb}
use mathlib.Core.List.Memᴰ
use mathlib.Core.List.{List, [], Memᴰ}
use Rattle.std.proofs.lemmas.Bool.{eqb-false, not-true}
use Rattle.laws.specs.Order.{eq_or_ne}
use Rattle.laws.specs.Lists.{mem_index, index_mem}
use Rattle.rules.specs.declared.Row.{Row}
use Rattle.rules.specs.Limits.{place_limit, row_limit, ticket_limit}
use Rattle.rules.specs.Map.{Yard}
use Rattle.rules.specs.Rows.{Key, no_row, row_at, load, keep, insert_all}
use Rattle.rules.specs.ByteLaws.{RowFits}
use Rattle.rules.specs.Plan.{Stay, Permitted, run_rows}
use Rattle.rules.specs.Book.{Ranges, Whole, WellFormed, other_ticket}
use Rattle.lanes.specs.Yards.{YardRules}
use Rattle.keeping.specs.Chains.{rising_none}
use Rattle.keeping.specs.Changes.{keep_mem, mem_keep, keep_rising, keep_le, all_length, mem_all, all_old, all_new, AllNew, all_rising}
use Rattle.keeping.specs.Loads.{load_all, load_keep}
use Rattle.keeping.specs.Runs.{run_length, run_ticket, run_load, run_tested, run_apart}
use Rattle.keeping.specs.Unbarred.{unbarred_kept, unbarred_booked}

pub empty_formed : (Y : Yard) → WellFormed Y [] 1
unfolding load
empty_formed Y = record {
  counted = record { few = omega arith; ticket_from = omega arith; ticket_to = omega arith; ranges = λ i h. absurd (omega arith) };
  rising = rising_none;
  whole = λ r m. absurd (Memᴰ.not-nil m);
  room = λ p t h. omega arith;
  exchange = λ r m. absurd (Memᴰ.not-nil m);
}

-- the ranges of a row that stands in a book
pub row_ranges : {Y : Yard} {rows : List Row} {t : ℕ} → WellFormed Y rows t → (r : Row) → Memᴰ r rows → Ranges Y t r
row_ranges {Y} {rows} {t} W r m = let i = mem_index no_row m in subst (Ranges Y t) i.2 (W.counted.ranges i.0 i.1)

-- so it fits its bytes
pub row_fits : {Y : Yard} {rows : List Row} {t : ℕ} → Y.places ≤ place_limit → WellFormed Y rows t → (r : Row) → Memᴰ r rows → RowFits r
row_fits few W r m =
    let R = row_ranges W r m in
    record {
      place = omega (arith, R.place);
      entry = omega (arith, R.entry);
      ticket = omega (arith, R.ticket_to, W.counted.ticket_to);
      exit = omega (arith, R.exit);
      next = omega (arith, R.next);
    }

-- ---- booking

module _ (t : ℕ) (plan : List Stay) (rows : List Row) where
  pub book_rows : (y : Row) → Memᴰ y (insert_all (run_rows t plan) rows) → Memᴰ y rows ⊎ Memᴰ y (run_rows t plan)
  book_rows y m = ⊎_elim (λ n. inr n) (λ n. inl n) (mem_all (run_rows t plan) y rows m)

  pub rows_book : (y : Row) → Memᴰ y rows ⊎ Memᴰ y (run_rows t plan) → Memᴰ y (insert_all (run_rows t plan) rows)
  rows_book y m = ⊎_elim (λ n. all_old (run_rows t plan) y rows n) (λ n. all_new (run_rows t plan) y rows n) m

module _ {Y : Yard} (rules : YardRules Y) {rows : List Row} {t start dest s : ℕ} {plan : List Stay} (W : WellFormed Y rows t) (P : Permitted Y rows start dest s plan) where
  abbrev new : List Row
  new = run_rows t plan

  abbrev book : List Row
  book = insert_all new rows

  -- no booked row has the next ticket
  other : (r : Row) → Memᴰ r rows → r.ticket ≡ t → ⊥
  other r m e = omega (arith, (row_ranges W r m).ticket_to)

  new_keys : AllNew new rows
  new_keys = record {
    fresh = λ x m y d e. other y d (ap (λ (k : Key). k.ticket) e ∙ run_ticket t plan x m);
    apart = run_apart t rules plan P.run;
  }

  new_ranges : (r : Row) → Memᴰ r new → Ranges Y (t + 1) r
  new_ranges r m =
      let o = run_tested t rules plan P.run r m in
      let e = run_ticket t plan r m in
      record {
        place = o.on_map;
        next = ⊎_elim (λ (e : r.next ≡ r.place). rw e o.on_map) (λ (ne : r.next ≡ r.place → ⊥). rules.to_on r.place r.next (o.linked ne)) (eq_or_ne r.next r.place);
        entry = omega (arith, o.lasts, o.in_day);
        exit = o.in_day;
        ticket_from = omega (arith, W.counted.ticket_from);
        ticket_to = omega arith;
      }

  old_ranges : (r : Row) → Memᴰ r rows → Ranges Y (t + 1) r
  old_ranges r m =
      let o = row_ranges W r m in
      record { place = o.place; next = o.next; entry = o.entry; exit = o.exit; ticket_from = o.ticket_from; ticket_to = omega (arith, o.ticket_to) }

  new_whole : Whole Y book t
  new_whole = record {
    plan = plan;
    is_plan = P.run;
    booked = λ r m. all_new new r rows m;
    only = λ r m e. ⊎_elim (λ (d : Memᴰ r rows). absurd (other r d e)) (λ (d : Memᴰ r new). d) (book_rows t plan rows r m);
  }

  old_whole : (r : Row) → Memᴰ r rows → Whole Y book r.ticket
  old_whole r m =
      let o = W.whole r m in
      record {
        plan = o.plan;
        is_plan = o.is_plan;
        booked = λ x d. all_old new x rows (o.booked x d);
        only = λ x d e. ⊎_elim (λ (n : Memᴰ x rows). o.only x n e) (λ (n : Memᴰ x new). absurd (other r m (sym e ∙ run_ticket t plan x n))) (book_rows t plan rows x d);
      }

  formed : t < ticket_limit → length rows + length plan ≤ row_limit → WellFormed Y book (t + 1)
  formed before fits = record {
    counted = record {
      few = omega (arith, all_length new rows, run_length t plan);
      ticket_from = omega arith;
      ticket_to = omega arith;
      ranges = λ i h. ⊎_elim (λ (m : Memᴰ (row_at book i) rows). old_ranges (row_at book i) m) (λ (m : Memᴰ (row_at book i) new). new_ranges (row_at book i) m)
          (book_rows t plan rows (row_at book i) (index_mem no_row book i h));
    };
    rising = all_rising new rows W.rising new_keys;
    whole = λ r m. ⊎_elim (λ (d : Memᴰ r rows). old_whole r d) (λ (d : Memᴰ r new). subst (Whole Y book) (sym (run_ticket t plan r d)) new_whole) (book_rows t plan rows r m);
    room = λ p x h. omega (arith, load_all p x new rows, run_load t plan p x, P.room p x h);
    exchange = unbarred_booked t rules P.run rows P.exchange W.exchange;
  }

pub book_keeps : {Y : Yard} → YardRules Y → {rows : List Row} {t start dest s : ℕ} {plan : List Stay} → WellFormed Y rows t → t < 1000000
    → Permitted Y rows start dest s plan → length rows + length plan ≤ 1024 → WellFormed Y (insert_all (run_rows t plan) rows) (t + 1)
book_keeps rules W before P fits = formed rules W P before fits

-- ---- cancelling

module _ (k : ℕ) (rows : List Row) where
  pub cancel_rows : (y : Row) → Memᴰ y (keep (other_ticket k) rows) → Memᴰ y rows × (y.ticket ≡ k → ⊥)
  cancel_rows y m = let r = mem_keep (other_ticket k) y rows m in (r.0, eqb-false y.ticket k (not-true (eqb y.ticket k) r.1))

  pub rows_cancel : (y : Row) → Memᴰ y rows × (y.ticket ≡ k → ⊥) → Memᴰ y (keep (other_ticket k) rows)
  rows_cancel y m = keep_mem (other_ticket k) (rw (ne_eqb y.ticket k m.1)) m.0

module _ {Y : Yard} {rows : List Row} {t : ℕ} (k : ℕ) (W : WellFormed Y rows t) where
  abbrev rest : List Row
  rest = keep (other_ticket k) rows

  rest_whole : (r : Row) → Memᴰ r rest → Whole Y rest r.ticket
  rest_whole r m =
      let d = cancel_rows k rows r m in
      let o = W.whole r d.0 in
      record {
        plan = o.plan;
        is_plan = o.is_plan;
        booked = λ x n. rows_cancel k rows x (o.booked x n, λ e. d.1 (sym (run_ticket r.ticket o.plan x n) ∙ e));
        only = λ x n e. o.only x (cancel_rows k rows x n).0 e;
      }

  pub cancel_keeps : WellFormed Y (keep (other_ticket k) rows) t
  cancel_keeps = record {
    counted = record {
      few = omega (arith, keep_le (other_ticket k) rows, W.counted.few);
      ticket_from = W.counted.ticket_from;
      ticket_to = W.counted.ticket_to;
      ranges = λ i h. row_ranges W (row_at rest i) (cancel_rows k rows (row_at rest i) (index_mem no_row rest i h)).0;
    };
    rising = keep_rising (other_ticket k) rows W.rising;
    whole = rest_whole;
    room = λ p x h. omega (arith, load_keep p x (other_ticket k) rows, W.room p x h);
    exchange = unbarred_kept (other_ticket k) rows W.exchange;
  }
