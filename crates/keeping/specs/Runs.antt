-- A plan's rows under a ticket: as many as its stays, of its ticket alone, loading places as the stays do; each row passes the chain test;
-- entries and exits rise along them, so that their keys and their exits differ.
use Rattle.std.specs.Prelude.{◌≡◌, ℕ, zero, suc, ◌+◌, ◌<◌, ◌≤◌, length}
use Rattle.std.proofs.Math.Path.{refl, ap}
use Rattle.std.proofs.Common.{sym, ◌∙◌, ⊎_elim, arith}
use mathlib.Core.List.Memᴰ
use mathlib.Core.List.{List, [], ◌∷◌, Memᴰ}
use Rattle.laws.specs.Order.{lt_or_ge}
use Rattle.laws.specs.Lists.{mem_index}
use Rattle.rules.specs.declared.Row.{Row}
use Rattle.rules.specs.Map.{Yard}
use Rattle.rules.specs.Rows.{Key, row_key, no_row, row_at, covers, bit, load}
use Rattle.rules.specs.Plan.{Stay, stay_at, Plan, held, stay_row, run_rows}
use Rattle.rules.specs.Book.{Whole}
use Rattle.lanes.specs.Yards.{YardRules}
use Rattle.chains.specs.Test.{RowOk}
use Rattle.chains.specs.Laws.{whole_tested, run_rises}

module _ (k : ℕ) where
  pub run_length : (plan : List Stay) → length (run_rows k plan) ≡ length plan
  run_length [] = refl
  run_length (x ∷ []) = refl
  run_length (x ∷ (y ∷ ys)) = ap suc (run_length (y ∷ ys))

  pub run_ticket : (plan : List Stay) (r : Row) → Memᴰ r (run_rows k plan) → r.ticket ≡ k
  run_ticket [] r m = absurd (Memᴰ.not-nil m)
  run_ticket (x ∷ []) r m = ⊎_elim (λ (e : r ≡ stay_row k x x.place). ap (λ (r : Row). r.ticket) e) (λ (d : Memᴰ r []). absurd (Memᴰ.not-nil d)) (Memᴰ.cases_cons m)
  run_ticket (x ∷ (y ∷ ys)) r m =
      ⊎_elim (λ (e : r ≡ stay_row k x y.place). ap (λ (r : Row). r.ticket) e) (λ (d : Memᴰ r (run_rows k (y ∷ ys))). run_ticket (y ∷ ys) r d) (Memᴰ.cases_cons m)

  pub run_load : (plan : List Stay) (p t : ℕ) → load (run_rows k plan) p t ≡ held plan p t
  unfolding load held
  run_load [] p t = refl
  run_load (x ∷ []) p t = refl
  run_load (x ∷ (y ∷ ys)) p t = ap (λ (n : ℕ). bit (covers x.place x.entry x.exit p t) + n) (run_load (y ∷ ys) p t)

  -- a plan's rows alone are its whole run
  run_whole : {Y : Yard} {plan : List Stay} → Plan Y plan → Whole Y (run_rows k plan) k
  run_whole {plan = plan} P = record { plan = plan; is_plan = P; booked = λ s d. d; only = λ s d q. d }

  module _ {Y : Yard} (rules : YardRules Y) where
    pub run_tested : (plan : List Stay) → Plan Y plan → (r : Row) → Memᴰ r (run_rows k plan) → RowOk Y (run_rows k plan) r
    run_tested plan P r m = (whole_tested rules (run_whole P)).each r m (run_ticket plan r m)

    rises : (plan : List Stay) → Plan Y plan → (i : ℕ) → i < length plan → (stay_at plan i).entry < (stay_at plan i).exit
    rises plan P i h = omega (arith, P.lasts i h, rules.long (stay_at plan i).place)

    -- entries rise along a plan
    later : (plan : List Stay) → Plan Y plan → (i j : ℕ) → i < j → j < length plan → (stay_at plan i).entry < (stay_at plan j).entry
    later plan P i zero h l = absurd (omega arith)
    later plan P i (suc j) h l =
        let up = rises plan P j (omega arith) in
        let on = P.meets j l in
        ⊎_elim (λ (c : i < j). omega (arith, later plan P i j c (omega arith), up, on))
        (λ (c : j ≤ i). let e : i ≡ j = omega arith in rw e (omega (arith, up, on)))
        (lt_or_ge i j)

    -- and a plan's rows have its stays' entries
    run_entry : (plan : List Stay) (i : ℕ) → (row_at (run_rows k plan) i).entry ≡ (stay_at plan i).entry
    run_entry [] i = refl
    run_entry (x ∷ []) zero = refl
    run_entry (x ∷ []) (suc i) = refl
    run_entry (x ∷ (y ∷ ys)) zero = refl
    run_entry (x ∷ (y ∷ ys)) (suc i) = run_entry (y ∷ ys) i

    pub run_apart : (plan : List Stay) → Plan Y plan → (i j : ℕ) → i < j → j < length (run_rows k plan)
        → row_key (row_at (run_rows k plan) i) ≡ row_key (row_at (run_rows k plan) j) → ⊥
    run_apart plan P i j h l e =
        let n = run_length plan in
        let q = ap (λ (key : Key). key.entry) e in
        omega (arith, later plan P i j h (omega arith), run_entry plan i, run_entry plan j, q)

    -- rows of one exit are one row
    pub same_exit : (plan : List Stay) → Plan Y plan → (r s : Row) → Memᴰ r (run_rows k plan) → Memᴰ s (run_rows k plan) → r.exit ≡ s.exit → r ≡ s
    same_exit plan P r s m n e =
        let i = mem_index no_row m in
        let j = mem_index no_row n in
        let a = ap (λ (r : Row). r.exit) i.2 in
        let b = ap (λ (r : Row). r.exit) j.2 in
        ⊎_elim (λ (c : i.0 < j.0). absurd (omega (arith, run_rises rules k plan P no_row i.0 j.0 c j.1, a, b)))
        (λ (c : j.0 ≤ i.0). ⊎_elim (λ (d : j.0 < i.0). absurd (omega (arith, run_rises rules k plan P no_row j.0 i.0 d i.1, a, b)))
        (λ (d : i.0 ≤ j.0). let o : i.0 ≡ j.0 = omega arith in sym i.2 ∙ ap (row_at (run_rows k plan)) o ∙ j.2) (lt_or_ge j.0 i.0))
        (lt_or_ge i.0 j.0)
