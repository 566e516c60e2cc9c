-- Rows that do not bar each other, kept through what is put in and taken out. Among them no way of crossings leads back to where it began. A run
-- crosses at most once a second, so that what it adds at a second is one crossing: a ring over it would bar it, which its plan rules out.
use Rattle.std.specs.Prelude.{ℕ, zero, suc, ◌<◌, ◌≡◌, refl, ◌⊎◌, Bool, length}
use Rattle.std.proofs.Common.{sym, ap, subst, ◌∙◌, inl, inr, ⊎_elim, arith}
use mathlib.Core.List.Memᴰ
use mathlib.Core.List.{List, [], ◌∷◌, Memᴰ}
use Rattle.rules.specs.declared.Row.{Row}
use Rattle.rules.specs.Map.{Yard}
use Rattle.rules.specs.Rows.{Leads, Barred, keep, insert_all}
use Rattle.rules.specs.Rows.Leads.{one, via}
use Rattle.rules.specs.RowLaws.{row_crossing, bars_row, crossing_apart, then, leads_fewer, Reaches, Once, Over, split}
use Rattle.rules.specs.Plan.{Stay, stay_at, Plan, stay_row, run_rows}
use Rattle.rules.specs.Book.{Unbarred}
use Rattle.lanes.specs.Yards.{YardRules}
use Rattle.keeping.specs.Changes.{mem_keep, mem_all}
use Rattle.keeping.specs.Runs.{same_exit}

-- none of these rows that goes on is barred by those
abbrev pub Clear : (by these : List Row) → Type 0
Clear by these = (r : Row) → Memᴰ r these → (r.next ≡ r.place → ⊥) → Barred by r.place r.next r.exit → ⊥

pub clear_fewer : {by these by' these' : List Row} → ((r : Row) → Memᴰ r by' → Memᴰ r by) → ((r : Row) → Memᴰ r these' → Memᴰ r these)
    → Clear by these → Clear by' these'
clear_fewer f g C r m ne l = C r (g r m) ne (leads_fewer f l)

pub unbarred_kept : (f : Row → Bool) (rows : List Row) → Unbarred rows → Unbarred (keep f rows)
unbarred_kept f rows U = clear_fewer (λ r m. (mem_keep f r rows m).0) (λ r m. (mem_keep f r rows m).0) U

-- ---- the same said of places: none is led back to

pub no_return : {rows : List Row} → Unbarred rows → (t x : ℕ) → Leads rows t x x → ⊥
no_return {rows} U t x l = by l refl
  where
    by : {y : ℕ} → Leads rows t x y → x ≡ y → ⊥
    by (one c) e = crossing_apart c e
    by (via {x = z} c m) e = U c.row c.booked c.onward (bars_row c (subst (Leads rows t z) (sym e) m))

no_return_unbarred : {rows : List Row} → ((t x : ℕ) → Leads rows t x x → ⊥) → Unbarred rows
no_return_unbarred none r m ne l = none r.exit r.place (via (row_crossing r m ne) l)

-- ---- rows put in

-- what comes before and after an added crossing on a ring bars it
pub closes : {old new : List Row} {t x : ℕ} (o : Over old new t x x) → Leads old t o.row.next o.row.place
closes {old} {t = t} {x} o = by o.after o.before
  where
    by : Reaches old t o.row.next x → Reaches old t x o.row.place → Leads old t o.row.next o.row.place
    by (inl e) (inl f) = absurd (o.onward (e ∙ f))
    by (inl e) (inr m) = subst (λ (u : ℕ). Leads old t u o.row.place) (sym e) m
    by (inr l) (inl f) = subst (Leads old t o.row.next) f l
    by (inr l) (inr m) = then l m

module _ {old new : List Row} (once : Once new) (U : Unbarred old) (C : Clear old new) where
  unbarred_all : Unbarred (insert_all new old)
  unbarred_all = no_return_unbarred (λ t x l. ⊎_elim (no_return U t x)
      (λ (o : Over old new t x x). C o.row o.added o.onward (subst (λ (u : ℕ). Leads old u o.row.next o.row.place) (sym o.when) (closes o)))
      (split from once l))
    where
      from : (r : Row) → Memᴰ r (insert_all new old) → Memᴰ r old ⊎ Memᴰ r new
      from r m = ⊎_elim (λ (d : Memᴰ r new). inr d) (λ (d : Memᴰ r old). inl d) (mem_all new r old m)

-- ---- a run

-- where the plan goes on, its crossings are not barred
abbrev pub ClearPlan : List Row → List Stay → Type 0
ClearPlan rows plan = (i : ℕ) → suc i < length plan → Barred rows (stay_at plan i).place (stay_at plan (suc i)).place (stay_at plan i).exit → ⊥

module _ (k : ℕ) where
  -- then its rows are not
  clear_run : (rows : List Row) (plan : List Stay) → ClearPlan rows plan → Clear rows (run_rows k plan)
  clear_run rows [] f r m ne = absurd (Memᴰ.not-nil m)
  clear_run rows (x ∷ []) f r m ne =
      ⊎_elim (λ (e : r ≡ stay_row k x x.place). absurd (ne (ap (λ (r : Row). r.next) e ∙ sym (ap (λ (r : Row). r.place) e))))
      (λ (d : Memᴰ r []). absurd (Memᴰ.not-nil d))
      (Memᴰ.cases_cons m)
  clear_run rows (x ∷ (y ∷ ys)) f r m ne =
      ⊎_elim (λ (e : r ≡ stay_row k x y.place). subst (λ (r : Row). Barred rows r.place r.next r.exit → ⊥) (sym e) (f 0 (omega arith)))
      (λ (d : Memᴰ r (run_rows k (y ∷ ys))). clear_run rows (y ∷ ys) (λ i h. f (suc i) (omega arith)) r d ne)
      (Memᴰ.cases_cons m)

  -- and the other way, as a plan goes on to another place each time
  pub run_clear : (rows : List Row) (plan : List Stay) → ((i : ℕ) → suc i < length plan → (stay_at plan (suc i)).place ≡ (stay_at plan i).place → ⊥)
      → Clear rows (run_rows k plan) → ClearPlan rows plan
  run_clear rows [] a f i h = absurd (omega arith)
  run_clear rows (x ∷ []) a f i h = absurd (omega arith)
  run_clear rows (x ∷ (y ∷ ys)) a f zero h = f (stay_row k x y.place) (Memᴰ.head refl) (a 0 h)
  run_clear rows (x ∷ (y ∷ ys)) a f (suc i) h = run_clear rows (y ∷ ys) (λ j l. a (suc j) (omega arith)) (λ r m. f r (Memᴰ.tail m)) i (omega arith)

  pub unbarred_booked : {Y : Yard} → YardRules Y → {plan : List Stay} → Plan Y plan → (rows : List Row) → ClearPlan rows plan → Unbarred rows → Unbarred (insert_all (run_rows k plan) rows)
  unbarred_booked rules {plan} P rows f U = unbarred_all (λ r s m n _ _ e. same_exit k rules plan P r s m n e) U (clear_run rows plan f)
