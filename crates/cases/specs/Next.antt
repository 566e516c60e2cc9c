-- The least entry from one window, itself entered at e, into another, as a definition that computes: the seconds that both windows and the
-- duration allow are looked at in order, up to the first at which the crossing is not barred. It is a step, and no step is before it.
use Rattle.std.specs.Prelude.{ℕ, zero, suc, ◌+◌, ◌-◌, ◌≤◌, ◌<◌, min, max, ◌≡◌, Bool, List}
use Rattle.std.proofs.Math.Path.{refl}
use Rattle.std.proofs.Common.{subst, ⊎_elim, arith}
use Rattle.std.proofs.Math.Bool.{true, false}
use Rattle.laws.specs.Order.{lt_or_ge}
use Rattle.laws.specs.Tests.{not_both}
use Rattle.rules.specs.declared.Row.{Row}
use Rattle.rules.specs.Map.{Yard}
use Rattle.rules.specs.RingLaws.{barredb, unbarred, unbarredb}
use Rattle.rules.specs.Window.{Span, Step, Yields}

-- a second above every second of the day
abbrev pub mark : ℕ
mark = 86401

-- the least of lo, lo + 1, .. (k of them) at which the test fails, the mark where there is none
unfoldable pub scan : (ℕ → Bool) → ℕ → ℕ → ℕ
scan f zero lo = mark
scan f (suc k) lo = elim (f lo) [ false ↦ lo | true ↦ scan f k (suc lo) ]

scan_low : (f : ℕ → Bool) (k lo u : ℕ) → lo ≤ u → u < lo + k → f u ≡ false → scan f k lo ≤ u
unfolding scan
scan_low f zero lo u h l b = absurd (omega arith)
scan_low f (suc k) lo u h l b = go (f lo) refl (λ h'. scan_low f k (suc lo) u h' (omega arith) b)
  where
    go : (t : Bool) → f lo ≡ t → (suc lo ≤ u → scan f k (suc lo) ≤ u) → (elim t as (λ _. ℕ) [ false ↦ lo | true ↦ scan f k (suc lo) ]) ≤ u
    go false e ih = h
    go true e ih = ih (⊎_elim (λ (q : lo < u). q) (λ (q : u ≤ lo). let z : lo ≡ u = omega arith in absurd (not_both (subst (λ x. f x ≡ true) z e) b)) (lt_or_ge lo u))

scan_at : (f : ℕ → Bool) (k lo : ℕ) → scan f k lo < mark → (lo ≤ scan f k lo) × (scan f k lo < lo + k) × (f (scan f k lo) ≡ false)
unfolding scan
scan_at f zero lo = λ h. absurd (omega arith)
scan_at f (suc k) lo = go (f lo) refl (scan_at f k (suc lo))
  where
    go : (t : Bool) → f lo ≡ t → (scan f k (suc lo) < mark → (suc lo ≤ scan f k (suc lo)) × (scan f k (suc lo) < suc lo + k) × (f (scan f k (suc lo)) ≡ false))
        → let x = elim t as (λ _. ℕ) [ false ↦ lo | true ↦ scan f k (suc lo) ] in x < mark → (lo ≤ x) × (x < lo + suc k) × (f x ≡ false)
    go false e ih h = (omega arith, omega arith, e)
    go true e ih h = let r = ih h in (omega (arith, r.0), omega (arith, r.1), r.2)

module _ (Y : Yard) (B : List Row) where
  from : Span → Span → ℕ → ℕ
  from w v e = max (e + Y.dur w.place) v.from

  upto : Span → Span → ℕ
  upto w v = min w.to (v.to - Y.dur v.place)

  unfoldable pub least_entry : Span → Span → ℕ → ℕ
  unfolding from upto
  least_entry w v e = elim (Y.link w.place v.place) [ false ↦ mark | true ↦ scan (barredb B w.place v.place) (suc (upto w v) - from w v e) (from w v e) ]

  pub least_low : (w v : Span) (e u : ℕ) → Step Y B w v e u → least_entry w v e ≤ u
  unfolding least_entry
  least_low w v e u k =
      let a = k.after in let b = k.before in let c = k.from in let d = k.fits in
      rw (k.linked, least_entry) (scan_low (barredb B w.place v.place) _ _ u (omega arith) (omega arith) (unbarredb B w.place v.place u k.clear))

  pub least_step : (w v : Span) (e : ℕ) → v.from + Y.dur v.place ≤ v.to → least_entry w v e < mark → Step Y B w v e (least_entry w v e)
  unfolding least_entry
  least_step w v e l = go (Y.link w.place v.place) refl
    where
      go : (t : Bool) → Y.link w.place v.place ≡ t
          → let x = elim t as (λ _. ℕ) [ false ↦ mark | true ↦ scan (barredb B w.place v.place) (suc (upto w v) - from w v e) (from w v e) ] in x < mark → Step Y B w v e x
      go false q h = absurd (omega arith)
      go true q h =
          let r = scan_at (barredb B w.place v.place) (suc (upto w v) - from w v e) (from w v e) h in
          let r0 = r.0 in
          let r1 = r.1 in
          record { linked = q; after = omega arith; before = omega arith; from = omega arith; fits = omega arith; clear = unbarred B w.place v.place _ r.2 }

  -- the entry that a window yields, both ways
  pub least_yields : (w v : Span) (e : ℕ) → v.from + Y.dur v.place ≤ v.to → least_entry w v e < mark → Yields Y B w v e (least_entry w v e)
  least_yields w v e l h = record { step = least_step w v e l h; least = λ x k. least_low w v e x k }

  pub yields_least : (w v : Span) (e u : ℕ) → v.from + Y.dur v.place ≤ v.to → u < mark → Yields Y B w v e u → least_entry w v e ≡ u
  yields_least w v e u l m y =
      let h = least_low w v e u y.step in
      omega (arith, y.least (least_entry w v e) (least_step w v e l (omega arith)))
