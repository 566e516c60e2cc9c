-- Earliest entries by a test. A list of entries, one for each window, is right if no step from an entry into a window betters that window's
-- entry (so none is too late) and each comes from a sooner one or is the first stay's (so none is too soon). Whoever proposed the list need
-- not be believed.
use Prim.Native.Nat.{ℕ, zero, suc, ◌+◌, ◌≤◌, ◌<◌}
use Rattle.std.specs.Prelude.{◌≡◌, refl, ◌⊎◌, Bool, ◌&&◌, ◌||◌, List, length, ltb}
use Rattle.std.proofs.Common.{subst, arith}
use Rattle.std.proofs.Math.Logic.{inl, inr, ⊎_elim}
use Rattle.std.proofs.Math.Bool.{true, false}
use Rattle.std.proofs.Math.ListN.{get_or}
use Rattle.std.proofs.Math.Dec.{eqb, leb}
use borrow.Author.Tests.{eqb-true, leb-true, ltb-true, eq-eqb, le-leb}
use Rattle.laws.specs.Order.{lt_or_ge, strong}
use Rattle.laws.specs.Tests.{and_in, and_l, and_r, or_out}
use Rattle.rules.specs.declared.Row.{Row}
use Rattle.rules.specs.Map.{Yard}
use Rattle.rules.specs.Window.{Window, Span, Step}
use Rattle.lanes.specs.Reach.{step_mono, begin, Enter, fifo, Before, came}
use Rattle.cases.specs.Next.{mark, least_entry, least_low, least_step}

-- a test holds of each number below n
abbrev pub all_below : ℕ → (ℕ → Bool) → Bool
all_below zero f = true
all_below (suc n) f = f n && all_below n f

pub below_out : (n : ℕ) (f : ℕ → Bool) → all_below n f ≡ true → (i : ℕ) → i < n → f i ≡ true
below_out zero f t i h = absurd (omega arith)
below_out (suc n) f t i h =
    ⊎_elim (λ (k : i < n). below_out n f (and_r (f n) (all_below n f) t) i k)
    (λ (k : n ≤ i). let e : n ≡ i = omega arith in subst (λ x. f x ≡ true) e (and_l (f n) (all_below n f) t))
    (lt_or_ge i n)

abbrev pub no_span : Span
no_span = record { place = 0; from = 0; to = 0 }

abbrev pub span_at : List Span → ℕ → Span
span_at ws i = get_or ws i no_span

abbrev pub entry_at : List ℕ → ℕ → ℕ
entry_at dist i = get_or dist i mark

module _ (Y : Yard) (B : List Row) (start s : ℕ) (ws : List Span) (dist prior : List ℕ) where
  abbrev W : ℕ → Span
  W i = span_at ws i

  abbrev D : ℕ → ℕ
  D i = entry_at dist i

  -- a plan may begin in w
  unfoldable pub first_b : Span → Bool
  first_b w = eqb w.place start && (leb w.from s && leb (s + Y.dur w.place) w.to)

  unfoldable pub source_b : ℕ → Bool
  unfolding first_b
  source_b i = elim (first_b (W i)) [ true ↦ leb (D i) s | false ↦ true ]

  unfoldable pub settled_b : ℕ → ℕ → Bool
  settled_b i j = leb (D j) (least_entry Y B (W i) (W j) (D i))

  unfoldable pub had_b : ℕ → Bool
  unfolding first_b
  had_b j = leb mark (D j) || ((first_b (W j) && eqb (D j) s) || (ltb (get_or prior j 0) (length ws) && (ltb (D (get_or prior j 0)) (D j) && eqb (least_entry Y B (W (get_or prior j 0)) (W j) (D (get_or prior j 0))) (D j))))

  -- the whole test
  unfoldable pub entries_b : Bool
  unfolding source_b settled_b had_b
  entries_b = all_below (length ws) source_b && (all_below (length ws) (λ i. all_below (length ws) (settled_b i)) && all_below (length ws) had_b)

  first_in : (w : Span) → w.place ≡ start → w.from ≤ s → s + Y.dur w.place ≤ w.to → first_b w ≡ true
  unfolding first_b
  first_in w a b c = and_in (eq-eqb _ _ a) (and_in (le-leb _ _ b) (le-leb _ _ c))

  first_out : (w : Span) → first_b w ≡ true → (w.place ≡ start) × (w.from ≤ s) × (s + Y.dur w.place ≤ w.to)
  unfolding first_b
  first_out w t =
      let r = and_r (eqb w.place start) (leb w.from s && leb (s + Y.dur w.place) w.to) t in (
        eqb-true _ _ (and_l (eqb w.place start) (leb w.from s && leb (s + Y.dur w.place) w.to) t),
        leb-true _ _ (and_l (leb w.from s) (leb (s + Y.dur w.place) w.to) r),
        leb-true _ _ (and_r (leb w.from s) (leb (s + Y.dur w.place) w.to) r),
      )

  module _
      (are : (i : ℕ) → i < length ws → Window Y B (W i).place (W i).from (W i).to)
      (all : (w : Span) → Window Y B w.place w.from w.to → (i : ℕ) × (i < length ws) × (W i ≡ w))
      (dur_pos : (p : ℕ) → 0 < Y.dur p)
      (ok : entries_b ≡ true)
    where
      source : (i : ℕ) → i < length ws → first_b (W i) ≡ true → D i ≤ s
      unfolding entries_b source_b
      source i h f = leb-true _ _ (rw (f, source_b) at (below_out (length ws) source_b (and_l _ _ ok) i h))

      settled : (i j : ℕ) → i < length ws → j < length ws → D j ≤ least_entry Y B (W i) (W j) (D i)
      unfolding entries_b settled_b
      settled i j h k = leb-true _ _ (below_out (length ws) (settled_b i) (below_out (length ws) (λ i. all_below (length ws) (settled_b i)) (and_l _ _ (and_r (all_below (length ws) source_b) _ ok)) i h) j k)

      had : (j : ℕ) → j < length ws → had_b j ≡ true
      unfolding entries_b
      had j h = below_out (length ws) had_b (and_r (all_below (length ws) (λ i. all_below (length ws) (settled_b i))) _ (and_r (all_below (length ws) source_b) _ ok)) j h

      -- no entry is sooner than the table's
      pub entry_low : (t i : ℕ) → i < length ws → Enter Y B start s (W i) t → D i ≤ t
      entry_low = strong (λ t. (i : ℕ) → i < length ws → Enter Y B start s (W i) t → D i ≤ t) (λ t ih i h m. ⊎_elim (λ b. at_start t i h m b) (λ b. after t i h ih b) (came Y B start s m))
        where
          at_start : (t i : ℕ) → i < length ws → Enter Y B start s (W i) t → ((W i).place ≡ start) × (t ≡ s) → D i ≤ t
          at_start t i h m b = let x = m.from in let y = m.fits in omega (arith, source i h (first_in (W i) b.0 (omega arith) (omega arith)))

          after : (t i : ℕ) → i < length ws → ((t' : ℕ) → t' < t → (j : ℕ) → j < length ws → Enter Y B start s (W j) t' → D j ≤ t') → Before Y B start s (W i) t → D i ≤ t
          after t i h ih b =
              let f = all b.w b.enter.is in
              let k : Step Y B (W f.0) (W i) b.t t = rw f.2 b.step in
              let l : D f.0 ≤ b.t = ih b.t (omega (arith, b.step.after, dur_pos b.w.place)) f.0 f.1 (rw f.2 b.enter) in
              omega (arith, settled f.0 i f.1 h, least_low Y B (W f.0) (W i) (D f.0) t (step_mono Y B l k))

      had_out : (j : ℕ) → had_b j ≡ true → D j < mark
          → ((first_b (W j) ≡ true) × (D j ≡ s)) ⊎ ((get_or prior j 0 < length ws) × (D (get_or prior j 0) < D j) × (least_entry Y B (W (get_or prior j 0)) (W j) (D (get_or prior j 0)) ≡ D j))
      unfolding had_b
      had_out j t m = ⊎_elim (λ (x : leb mark (D j) ≡ true). absurd (omega (arith, leb-true mark (D j) x))) (λ x. ⊎_elim (λ y. inl (and_l _ _ y, eqb-true _ _ (and_r (first_b (W j)) _ y))) (λ y. inr (three y)) (or_out _ _ x)) (or_out (leb mark (D j)) _ t)
        where
          q : ℕ
          q = get_or prior j 0

          three : (ltb q (length ws) && (ltb (D q) (D j) && eqb (least_entry Y B (W q) (W j) (D q)) (D j))) ≡ true → (q < length ws) × (D q < D j) × (least_entry Y B (W q) (W j) (D q) ≡ D j)
          three y =
              let r = and_r (ltb q (length ws)) (ltb (D q) (D j) && eqb (least_entry Y B (W q) (W j) (D q)) (D j)) y in
              (ltb-true _ _ (and_l (ltb q (length ws)) (ltb (D q) (D j) && eqb (least_entry Y B (W q) (W j) (D q)) (D j)) y), ltb-true _ _ (and_l (ltb (D q) (D j)) (eqb (least_entry Y B (W q) (W j) (D q)) (D j)) r), eqb-true _ _ (and_r (ltb (D q) (D j)) (eqb (least_entry Y B (W q) (W j) (D q)) (D j)) r))

      -- and each of the table's is had
      pub entry_real : (t j : ℕ) → D j ≡ t → j < length ws → D j < mark → Enter Y B start s (W j) (D j)
      entry_real = strong (λ t. (j : ℕ) → D j ≡ t → j < length ws → D j < mark → Enter Y B start s (W j) (D j)) (λ t ih j e h m. ⊎_elim (λ x. at_start j h x) (λ x. after t j e h m ih x) (had_out j (had j h) m))
        where
          at_start : (j : ℕ) → j < length ws → (first_b (W j) ≡ true) × (D j ≡ s) → Enter Y B start s (W j) (D j)
          at_start j h x = let f = first_out (W j) x.0 in rw x.1 (record { is = are j h; reach = rw f.0 begin; from = f.1; fits = f.2 })

          after : (t j : ℕ) → D j ≡ t → j < length ws → D j < mark → ((t' : ℕ) → t' < t → (i : ℕ) → D i ≡ t' → i < length ws → D i < mark → Enter Y B start s (W i) (D i))
              → (get_or prior j 0 < length ws) × (D (get_or prior j 0) < D j) × (least_entry Y B (W (get_or prior j 0)) (W j) (D (get_or prior j 0)) ≡ D j) → Enter Y B start s (W j) (D j)
          after t j e h m ih x =
              let i = get_or prior j 0 in
              let n : Enter Y B start s (W i) (D i) = ih (D i) (omega (arith, x.1)) i refl x.0 (omega (arith, x.1)) in
              let k : Step Y B (W i) (W j) (D i) (D j) = subst (Step Y B (W i) (W j) (D i)) x.2 (least_step Y B (W i) (W j) (D i) (are j h).long (omega (arith, x.2))) in
              fifo Y B start s (are j h) n k

-- a list of all windows, and an entry for each: its earliest, the mark where there is none
pub record Entered (Y : Yard) (B : List Row) (start s : ℕ) (ws : List Span) (dist : List ℕ) : Type 0 where
  pub are : (i : ℕ) → i < length ws → Window Y B (span_at ws i).place (span_at ws i).from (span_at ws i).to
  pub all : (w : Span) → Window Y B w.place w.from w.to → (i : ℕ) × (i < length ws) × (span_at ws i ≡ w)
  pub low : (t i : ℕ) → i < length ws → Enter Y B start s (span_at ws i) t → entry_at dist i ≤ t
  pub real : (i : ℕ) → i < length ws → entry_at dist i < mark → Enter Y B start s (span_at ws i) (entry_at dist i)

pub entered : {Y : Yard} {B : List Row} {start s : ℕ} {ws : List Span} {dist : List ℕ} (prior : List ℕ)
    → ((i : ℕ) → i < length ws → Window Y B (span_at ws i).place (span_at ws i).from (span_at ws i).to)
    → ((w : Span) → Window Y B w.place w.from w.to → (i : ℕ) × (i < length ws) × (span_at ws i ≡ w))
    → ((p : ℕ) → 0 < Y.dur p) → entries_b Y B start s ws dist prior ≡ true → Entered Y B start s ws dist
entered {Y} {B} {start} {s} {ws} {dist} prior are all dur_pos ok = record {
  are = are;
  all = all;
  low = entry_low Y B start s ws dist prior are all dur_pos ok;
  real = λ i h m. entry_real Y B start s ws dist prior are all dur_pos ok (entry_at dist i) i refl h m;
}
