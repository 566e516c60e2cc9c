-- 16, a barred crossing: the exchange rule first fails at the first row whose crossing the rows before it bar. A ring that the row completes goes over it once,
-- and the rest of the ring is what bars it.
use Rattle.std.specs.Prelude.{ℕ, ◌-◌, ◌≤◌, ◌<◌, ◌≡◌, List, [], ◌∷◌, length, take}
use Rattle.std.proofs.Common.{sym, subst, ⊎_elim, arith}
use mathlib.Core.List.Memᴰ
use Rattle.std.proofs.Math.Decide.{ℕ_discrete}
use Rattle.laws.specs.Order.{lt_or_ge}
use Rattle.rules.specs.declared.Row.{Row}
use Rattle.rules.specs.Rows.{row_at, Leads, Barred}
use Rattle.rules.specs.Rows.Leads.{via}
use Rattle.rules.specs.RowLaws.{row_crossing, first_step, leads_fewer, Over, split, row_once}
use Rattle.rules.specs.Book.{Unbarred}
use Rattle.rules.specs.Fault.{FirstBad}
use Rattle.rules.specs.FaultLaws.{unbarred_inherited}
use Rattle.keeping.specs.Unbarred.{no_return, closes}
use Rattle.faults.specs.Decide.{as?, both?, not?}
use Rattle.faults.specs.Checks.{barred?}
use Rattle.faults.specs.First.{LostBy, FirstWrong, first_wrong, wrong_first}
use Rattle.faults.specs.Rows.{before_mem, here_mem, mem_cases}

-- row i goes on, and rows 1 to i - 1 bar its crossing
pub record Closes (rows : List Row) (i : ℕ) : Type 0 where
  pub goes_on : (row_at rows (i - 1)).next ≡ (row_at rows (i - 1)).place → ⊥
  pub barred : Barred (take (i - 1) rows) (row_at rows (i - 1)).place (row_at rows (i - 1)).next (row_at rows (i - 1)).exit

module _ (rows : List Row) where
  closes? : (i : ℕ) → Dec (Closes rows i)
  closes? i = as?
      (both? (not? (ℕ_discrete r.next r.place)) (barred? (take (i - 1) rows) r.place r.next r.exit))
      (λ x. record { goes_on = x.0; barred = x.1 })
      (λ c. (c.goes_on, c.barred))
    where
      r : Row
      r = row_at rows (i - 1)

  -- among rows 1 to i too
  barred_among : (i : ℕ) → 1 ≤ i → i ≤ length rows → Closes rows i
      → Barred (take i rows) (row_at rows (i - 1)).place (row_at rows (i - 1)).next (row_at rows (i - 1)).exit
  barred_among i h k c = leads_fewer (before_mem rows i h k) c.barred

  -- a ring among rows 1 to i goes over row i, once, and the rest of it bars that row
  ring_closed : (i : ℕ) (h : 1 ≤ i) (k : i ≤ length rows) → Unbarred (take (i - 1) rows) → (t x : ℕ) → Leads (take i rows) t x x → Closes rows i
  ring_closed i h k U t x l = ⊎_elim (λ m. absurd (no_return U t x m)) by (split (mem_cases rows i h k) row_once l)
    where
      Bars : Row → Type 0
      Bars r = (r.next ≡ r.place → ⊥) × Barred (take (i - 1) rows) r.place r.next r.exit

      by : Over (take (i - 1) rows) (row_at rows (i - 1) ∷ []) t x x → Closes rows i
      by o =
          let b : Bars o.row = (o.onward, subst (λ (u : ℕ). Leads (take (i - 1) rows) u o.row.next o.row.place) (sym o.when) (closes o)) in
          let c = subst Bars (Memᴰ.eq_of_singleton o.added) b in
          record { goes_on = c.0; barred = c.1 }

  lost_by_closing : LostBy Unbarred rows (Closes rows)
  lost_by_closing = record {
    wrong? = closes?;
    keeps = λ i h k f U r m g l. f (ring_closed i h k U r.exit r.place (via (row_crossing r m g) l));
    loses = λ i h k c U. U (row_at rows (i - 1)) (here_mem rows i h k) c.goes_on (barred_among i h k c);
  }

  -- the exchange rule first fails at the first row whose crossing the rows before it bar
  pub first_closing : {i : ℕ} → FirstBad Unbarred rows i → FirstWrong (Closes rows) rows i
  first_closing F = first_wrong unbarred_inherited rows lost_by_closing F

  pub closing_first : {i : ℕ} → FirstWrong (Closes rows) rows i → FirstBad Unbarred rows i
  closing_first w = wrong_first unbarred_inherited rows lost_by_closing w

  -- that row goes on, and its own crossing is barred among rows 1 to i
  pub barred_crossing : {i : ℕ} → FirstBad Unbarred rows i
      → ((row_at rows (i - 1)).next ≡ (row_at rows (i - 1)).place → ⊥)
      × Barred (take i rows) (row_at rows (i - 1)).place (row_at rows (i - 1)).next (row_at rows (i - 1)).exit
  barred_crossing {i} F = let w = first_closing F in (w.wrong.goes_on, barred_among i w.from w.to w.wrong)

  -- rows before it bar it, so that it is the second at least
  pub barred_second : {i : ℕ} → FirstBad Unbarred rows i → 2 ≤ i
  barred_second {i} F = ⊎_elim
      (λ (h : i < 2).
      let e : i - 1 ≡ 0 = omega arith in
      let r = row_at rows (i - 1) in
      absurd (Memᴰ.not-nil (first_step (subst (λ (n : ℕ). Leads (take n rows) r.exit r.next r.place) e (first_closing F).wrong.barred)).1.booked))
      (λ (h : 2 ≤ i). h)
      (lt_or_ge i 2)
