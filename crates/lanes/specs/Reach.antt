-- Reached entries, free windows as nodes, and the least entry from one window into another.
use Prim.Native.Nat.{ℕ, zero, suc, ◌+◌, ◌≤◌, ◌<◌}
use Rattle.std.specs.Prelude.{◌≡◌, refl, ◌⊎◌, true, List, length}
use Rattle.std.proofs.Common.{sym, inl, inr}
use Rattle.std.proofs.Math.Logic.{⊎_elim}
use Rattle.std.proofs.Math.Logic.Dec
use Rattle.std.proofs.Math.Bool.{Bool-discrete}
use native.Mathlib.Omega.{arith}
use Rattle.std.proofs.Math.Decide.{dec_le, map_dec}
use Rattle.laws.specs.Order.{Least, NoneIn, least, lt_or_ge}
use Rattle.rules.specs.declared.Row.{Row}
use Rattle.rules.specs.Limits.{day}
use Rattle.rules.specs.Map.{Yard}
use Rattle.rules.specs.Rows.{Barred}
use Rattle.rules.specs.RingLaws.{unbarred, unbarredb}
use Rattle.rules.specs.Plan.{Stay, stay_at, Permitted}
use Rattle.rules.specs.Window.{Free, Window, Span, Step}
use Rattle.lanes.specs.Stays.{stay_safe}
use Rattle.lanes.specs.Windows.{In, window_of, ends}

module _ (Y : Yard) (B : List Row) where
  -- an earlier entry allows no less
  pub step_mono : {w v : Span} {e e' u : ℕ} → e ≤ e' → Step Y B w v e' u → Step Y B w v e u
  step_mono h k = record { linked = k.linked; after = omega arith; before = k.before; from = k.from; fits = k.fits; clear = k.clear }

  dec_step : (w v : Span) (e u : ℕ) → Dec (Step Y B w v e u)
  dec_step w v e u =
      map_dec
      (λ x. record { linked = x.0; after = x.1.0; before = x.1.1.0; from = x.1.1.1.0; fits = x.1.1.1.1.0; clear = x.1.1.1.1.1 })
      (λ k. (k.linked, (k.after, (k.before, (k.from, (k.fits, k.clear))))))
      (Dec.and (Bool-discrete _ _) (Dec.and (dec_le _ _) (Dec.and (dec_le _ _) (Dec.and (dec_le _ _) (Dec.and (dec_le _ _) (map_dec (unbarred B _ _ _) (unbarredb B _ _ _) (Bool-discrete _ _)))))))

  -- the seconds that w, entered at e, allows into v: the least of them, or none
  pub steps : (w v : Span) (e : ℕ) → Least (Step Y B w v e) 0 (suc w.to) ⊎ NoneIn (Step Y B w v e) 0 (suc w.to)
  steps w v e = least (Step Y B w v e) (dec_step w v e) 0 (suc w.to) (omega arith)

  or_none : {w v : Span} {e : ℕ} → Least (Step Y B w v e) 0 (suc w.to) ⊎ NoneIn (Step Y B w v e) 0 (suc w.to) → ℕ
  or_none (inl l) = l.at
  or_none (inr n) = suc day

  -- the least entry from w, entered at e, into v: one more than the day's last second where there is none
  pub next : Span → Span → ℕ → ℕ
  next w v e = or_none (steps w v e)

  -- what `next` says: it is a step, or the mark, and no step is before it
  pub next_low : (w v : Span) (e u : ℕ) → Step Y B w v e u → next w v e ≤ u
  unfolding next or_none
  next_low w v e u k = by (steps w v e)
    where
      by : (x : Least (Step Y B w v e) 0 (suc w.to) ⊎ NoneIn (Step Y B w v e) 0 (suc w.to)) → or_none x ≤ u
      by (inl l) = ⊎_elim (λ (h : u < l.at). absurd (l.before u (omega arith) h k)) (λ h. h) (lt_or_ge u l.at)
      by (inr n) = absurd (n u (omega arith) (omega (arith, k.before)) k)

  pub next_step : (w v : Span) (e : ℕ) → next w v e < suc day → Step Y B w v e (next w v e)
  unfolding next or_none
  next_step w v e = by (steps w v e)
    where
      by : (x : Least (Step Y B w v e) 0 (suc w.to) ⊎ NoneIn (Step Y B w v e) 0 (suc w.to)) → or_none x < suc day → Step Y B w v e (or_none x)
      by (inl l) h = l.holds
      by (inr n) h = absurd (omega arith)

  pub next_top : (w v : Span) (e : ℕ) → w.to ≤ day → next w v e ≤ suc day
  unfolding next or_none
  next_top w v e d = by (steps w v e)
    where
      by : (x : Least (Step Y B w v e) 0 (suc w.to) ⊎ NoneIn (Step Y B w v e) 0 (suc w.to)) → or_none x ≤ suc day
      by (inl l) = omega (arith, l.to)
      by (inr n) = omega arith

module _ (Y : Yard) (B : List Row) (start s : ℕ) where
  -- a wagon that begins at `start` at second s can enter p at t, all its stays before that one done as a permitted plan does them
  pub data Reach : ℕ → ℕ → Type 0 where
    begin : Reach start s
    go : {p t : ℕ} (q u : ℕ) → Reach p t → t + Y.dur p ≤ u → u ≤ day → Free Y B p t u → Y.link p q ≡ true → (Barred B p q u → ⊥) → Reach q u

  -- each stay of a permitted plan is entered at a reached second
  pub plan_reach : {dest : ℕ} {plan : List Stay} → Permitted Y B start dest s plan → (i : ℕ) → i < length plan → Reach (stay_at plan i).place (stay_at plan i).entry
  plan_reach P zero h = rw (P.first_place, P.first_entry) begin
  plan_reach {plan = plan} P (suc i) h =
      let k : i < length plan = omega arith in
      rw (← P.run.meets i h) (go _ _ (plan_reach P i k) (P.run.lasts i k) (ends P i k) (λ t a b. stay_safe P i t k a b) (P.run.goes i h) (P.exchange i h))

  pub reach_from : {p t : ℕ} → Reach p t → s ≤ t
  reach_from begin = omega arith
  reach_from (go q u r l d f k c) = omega (arith, reach_from r)

  -- a window's three numbers: a node of the search
  abbrev Is : Span → Type 0
  Is w = Window Y B w.place w.from w.to

  -- window w can be entered at t
  pub record Enter (w : Span) (t : ℕ) : Type 0 where
    pub is : Window Y B w.place w.from w.to
    pub reach : Reach w.place t
    pub from : w.from ≤ t
    pub fits : t + Y.dur w.place ≤ w.to

  -- once entered, w can be left at any second that both windows, the duration and the crossings allow
  pub fifo : {w v : Span} {e u : ℕ} → Is v → Enter w e → Step Y B w v e u → Enter v u
  fifo {w} {v} {e} {u} i n k =
      let d = n.is.in_day in
      record {
        is = i;
        reach = go v.place u n.reach k.after (omega arith) (λ t a b. n.is.free t (omega arith) (omega arith)) k.linked k.clear;
        from = k.from;
        fits = k.fits;
      }

  -- how v came to be entered at u: as the first stay, or from a window before
  pub record Before (v : Span) (u : ℕ) : Type 0 where
    pub w : Span
    pub t : ℕ
    pub enter : Enter w t
    pub step : Step Y B w v t u

  pub came : {v : Span} {u : ℕ} → Enter v u → ((v.place ≡ start) × (u ≡ s)) ⊎ Before v u
  came {v} {u} n = by n.reach refl refl
    where
      by : {q x : ℕ} → Reach q x → q ≡ v.place → x ≡ u → ((v.place ≡ start) × (u ≡ s)) ⊎ Before v u
      by begin e e' = inl (sym e, sym e')
      by (go {p} {t} q x r l d f k c) e e' =
          let i : In Y B p t x = window_of Y B p t x l d f in
          inr (record {
            w = record { place = p; from = i.start; to = i.end };
            t = t;
            enter = record { is = i.window; reach = r; from = i.from; fits = omega arith };
            step = record {
              linked = rw (← e) k;
              after = omega arith;
              before = omega arith;
              from = n.from;
              fits = n.fits;
              clear = rw (← e, ← e') c;
            };
          })

  pub record Soonest (w : Span) (e : ℕ) : Type 0 where
    pub enter : Enter w e
    pub least : (t : ℕ) → Enter w t → e ≤ t
