-- The windows as the nodes of the search: first entries there are earliest entries here.
use Rattle.std.specs.Prelude.{ℕ, suc, ◌≤◌, ◌<◌, ◌≡◌, refl, List}
use Rattle.std.proofs.Common.{sym, ap, subst, ◌∙◌, ⊎_elim, arith}
use Rattle.laws.specs.Order.{lt_or_ge, strong}
use Rattle.rules.specs.declared.Row.{Row}
use Rattle.rules.specs.Limits.{day}
use Rattle.rules.specs.Map.{Yard}
use Rattle.rules.specs.Window.{Window, Span, Step}
use Rattle.lanes.specs.Windows.{same_window}
use Rattle.lanes.specs.Reach.{step_mono, next, next_low, next_step, next_top, Enter, fifo, Before, came, Soonest}
use Rattle.label.specs.Label.{At, here, on, First}

-- all free windows, each once, in order of place and start
pub record Windows (Y : Yard) (B : List Row) (n : ℕ) (win : ℕ → Span) : Type 0 where
  pub are : (i : ℕ) → i < n → Window Y B (win i).place (win i).from (win i).to
  pub all : (w : Span) → Window Y B w.place w.from w.to → (i : ℕ) × (i < n) × (win i ≡ w)
  pub by_place : (i j : ℕ) → i < j → j < n → (win i).place ≤ (win j).place
  pub by_start : (i j : ℕ) → i < j → j < n → (win i).place ≡ (win j).place → (win i).from < (win j).from

span_eq : {w v : Span} → w.place ≡ v.place → w.from ≡ v.from → w.to ≡ v.to → w ≡ v
span_eq p q r = λ i. record { place = p i; from = q i; to = r i }

module _ (Y : Yard) (B : List Row) (n : ℕ) (win : ℕ → Span) (W : Windows Y B n win) where
  pub once : (i j : ℕ) → i < n → j < n → win i ≡ win j → i ≡ j
  once i j h k e =
      let p = ap (λ (w : Span). w.place) e in
      let f = ap (λ (w : Span). w.from) e in
      ⊎_elim (λ (c : i < j). absurd (omega (arith, W.by_start i j c k p)))
      (λ (c : j ≤ i). ⊎_elim (λ (d : j < i). absurd (omega (arith, W.by_start j i d h (sym p)))) (λ (d : i ≤ j). omega arith) (lt_or_ge j i))
      (lt_or_ge i j)

  pub mono : (w v e e' : ℕ) → w < n → e ≤ e' → next Y B (win w) (win v) e ≤ next Y B (win w) (win v) e'
  mono w v e e' k h =
      ⊎_elim (λ (c : next Y B (win w) (win v) e' < suc day). next_low Y B (win w) (win v) e _ (step_mono Y B h (next_step Y B (win w) (win v) e' c)))
      (λ (c : suc day ≤ next Y B (win w) (win v) e'). omega (arith, next_top Y B (win w) (win v) e (W.are w k).in_day))
      (lt_or_ge (next Y B (win w) (win v) e') (suc day))

  pub later : ((p : ℕ) → 0 < Y.dur p) → (w v e : ℕ) → w < n → e < suc day → e < next Y B (win w) (win v) e
  later dur_pos w v e k h =
      ⊎_elim (λ (c : next Y B (win w) (win v) e < suc day). omega (arith, (next_step Y B (win w) (win v) e c).after, dur_pos (win w).place))
      (λ (c : suc day ≤ next Y B (win w) (win v) e). omega arith)
      (lt_or_ge (next Y B (win w) (win v) e) (suc day))

module _
    (Y : Yard) (B : List Row) (start s n : ℕ) (win : ℕ → Span)
    (W : Windows Y B n win)
    (dur_pos : (p : ℕ) → 0 < Y.dur p)
    (src : ℕ) (src_in : src < n) (src_enter : Enter Y B start s (win src) s) (src_place : (win src).place ≡ start)
  where
    abbrev Node : ℕ → ℕ → Type 0
    Node i t = At n (suc day) src s (λ i j e. next Y B (win i) (win j) e) i t

    -- what the search enters, a wagon can enter
    pub node_enter : {i t : ℕ} → Node i t → Enter Y B start s (win i) t
    node_enter here = src_enter
    node_enter (on {w} {e} v u a h q k) =
        fifo Y B start s (W.are v h) (node_enter a) (subst (Step Y B (win w) (win v) e) q (next_step Y B (win w) (win v) e (omega arith)))

    -- what a wagon can enter, the search enters no later
    pub record Sooner (i t : ℕ) : Type 0 where
      pub at : ℕ
      pub node : Node i at
      pub no_later : at ≤ t

    -- the one window that a plan begins in
    only_src : (i : ℕ) → i < n → Enter Y B start s (win i) s → (win i).place ≡ start → i ≡ src
    only_src i h m e =
        let p : (win i).place ≡ (win src).place = e ∙ sym src_place in
        let w : Window Y B (win src).place (win i).from (win i).to = subst (λ q. Window Y B q (win i).from (win i).to) p (W.are i h) in
        let d = dur_pos (win i).place in
        let d' = dur_pos (win src).place in
        let q = same_window Y B (win src).place s w (W.are src src_in) m.from (omega (arith, m.fits)) src_enter.from (omega (arith, src_enter.fits)) in
        once Y B n win W i src h src_in (span_eq p q.0 q.1)

    soon_first : (t i : ℕ) → i < n → Enter Y B start s (win i) t → ((win i).place ≡ start) × (t ≡ s) → Sooner i t
    soon_first t i h m b =
        let e : i ≡ src = only_src i h (subst (Enter Y B start s (win i)) b.1 m) b.0 in
        record { at = s; node = rw e here; no_later = omega arith }

    soon_step : (t i : ℕ) → i < n → ((t' : ℕ) → t' < t → (j : ℕ) → j < n → Enter Y B start s (win j) t' → Sooner j t') → Enter Y B start s (win i) t → Before Y B start s (win i) t → Sooner i t
    soon_step t i h ih m b =
        let f = W.all b.w b.enter.is in
        let j = f.0 in
        let k : Step Y B (win j) (win i) b.t t = rw f.2 b.step in
        let a : Sooner j b.t = ih b.t (omega (arith, b.step.after, dur_pos b.w.place)) j f.1 (rw f.2 b.enter) in
        let x : next Y B (win j) (win i) a.at ≤ next Y B (win j) (win i) b.t = mono Y B n win W j i a.at b.t f.1 a.no_later in
        let y : next Y B (win j) (win i) b.t ≤ t = next_low Y B (win j) (win i) b.t t k in
        let z = (W.are i h).in_day in
        let z' = m.fits in
        record { at = next Y B (win j) (win i) a.at; node = on i (next Y B (win j) (win i) a.at) a.node h refl (omega arith); no_later = omega arith }

    pub enter_node : (t i : ℕ) → i < n → Enter Y B start s (win i) t → Sooner i t
    enter_node = strong (λ t. (i : ℕ) → i < n → Enter Y B start s (win i) t → Sooner i t) (λ t ih i h m. ⊎_elim (λ b. soon_first t i h m b) (λ b. soon_step t i h ih m b) (came Y B start s m))

    -- the two notions of first are one
    pub first_soonest : (i t : ℕ) → i < n → First n (suc day) src s (λ i j e. next Y B (win i) (win j) e) i t → Soonest Y B start s (win i) t
    first_soonest i t h f = record { enter = node_enter f.at; least = λ u m. let a = enter_node u i h m in omega (arith, f.least a.at a.node, a.no_later) }

    pub soonest_first : (i t : ℕ) → i < n → Soonest Y B start s (win i) t → First n (suc day) src s (λ i j e. next Y B (win i) (win j) e) i t
    soonest_first i t h e =
        let a = enter_node t i h e.enter in
        let q : a.at ≡ t = omega (arith, a.no_later, e.least a.at (node_enter a.node)) in
        record { at = rw (← q) a.node; least = λ u m. e.least u (node_enter m) }
