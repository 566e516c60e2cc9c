-- The windows of the first n places, listed place by place: the windows of the next place come after them, and those of all places are the nodes
-- of the search.
use Rattle.std.specs.Prelude.{ℕ, ◌+◌, ◌≤◌, ◌<◌, ◌≡◌, List, Option}
use Rattle.std.proofs.Common.{sym, ap, subst, ◌∙◌, ⊎_elim, arith}
use Rattle.laws.specs.Order.{lt_or_ge}
use Rattle.laws.specs.Lists.{at}
use Rattle.rules.specs.declared.Row.{Row}
use Rattle.rules.specs.Map.{Yard}
use Rattle.rules.specs.Rows.{load}
use Rattle.rules.specs.Window.{Span, Window}
use Rattle.lanes.specs.Nodes.{Windows}
use Rattle.flat.specs.Flat.{Of}
use Rattle.windows.specs.Sweep.{FreeStretch, span, Found, Swept, Sweep}

-- v is a free window of its place, whose load is L
abbrev pub Is : (ℕ → ℕ → ℕ) → List ℕ → List ℕ → Span → Type 0
Is L C D v = FreeStretch (L v.place) (at C v.place) (at D v.place) v.from v.to

pub record Listed (L : ℕ → ℕ → ℕ) (C D : List ℕ) (n w : ℕ) (win : ℕ → Span) : Type 0 where
  pub on_map : (i : ℕ) → i < w → (win i).place < n
  pub are : (i : ℕ) → i < w → Is L C D (win i)
  pub all : (v : Span) → v.place < n → Is L C D v → Found win 0 w v
  pub by_place : (i j : ℕ) → i < j → j < w → (win i).place ≤ (win j).place
  pub by_start : (i j : ℕ) → i < j → j < w → (win i).place ≡ (win j).place → (win i).from < (win j).from

pub listed_none : {L : ℕ → ℕ → ℕ} {C D : List ℕ} {win : ℕ → Span} → Listed L C D 0 0 win
listed_none = record {
  on_map = λ i h. absurd (omega arith);
  are = λ i h. absurd (omega arith);
  all = λ v h. absurd (omega arith);
  by_place = λ i j h k. absurd (omega arith);
  by_start = λ i j h k. absurd (omega arith);
}

module _ {L : ℕ → ℕ → ℕ} {C D : List ℕ} {p w : ℕ} {win : ℕ → Span} {r : ℕ} {win' : ℕ → Span}
    (I : Listed L C D p w win) (A : Swept (L p) (at C p) (at D p) p w win r win') (d-pos : 1 ≤ at D p) where
  -- what is true of the windows before and of those of p
  each : (Q : Span → Type 0) → ((i : ℕ) → i < w → Q (win i)) → ((i : ℕ) → w ≤ i → i < r → Q (win' i)) → (i : ℕ) → i < r → Q (win' i)
  each Q f g i h = ⊎_elim (λ (l : i < w). subst Q (sym (A.kept i l)) (f i l)) (λ (l : w ≤ i). g i l h) (lt_or_ge i w)

  place_old : (i : ℕ) → i < w → (win' i).place ≡ (win i).place
  place_old i h = ap (λ (v : Span). v.place) (A.kept i h)

  from_old : (i : ℕ) → i < w → (win' i).from ≡ (win i).from
  from_old i h = ap (λ (v : Span). v.from) (A.kept i h)

  new_is : (i : ℕ) → w ≤ i → i < r → Is L C D (win' i)
  new_is i h k = subst (λ q. FreeStretch (L q) (at C q) (at D q) (win' i).from (win' i).to) (sym (A.placed i h k)) (A.are i h k)

  found : (v : Span) → v.place < p + 1 → Is L C D v → Found win' 0 r v
  found v h x =
      ⊎_elim (λ (l : v.place < p). let f = I.all v l x in record { i = f.i; lo = omega arith; hi = omega (arith, f.hi, A.some); is = A.kept f.i f.hi ∙ f.is })
      (λ (l : p ≤ v.place).
      let e : v.place ≡ p = omega arith in
      let f = A.all v.from v.to (subst (λ q. FreeStretch (L q) (at C q) (at D q) v.from v.to) e x) in
      record { i = f.i; lo = omega arith; hi = f.hi; is = f.is ∙ (λ k. span (sym e k) v.from v.to) })
      (lt_or_ge v.place p)

  by_place : (i j : ℕ) → i < j → j < r → (win' i).place ≤ (win' j).place
  by_place i j h k =
      ⊎_elim (λ (l : j < w). omega (arith, place_old i (omega arith), place_old j l, I.by_place i j h l))
      (λ (l : w ≤ j).
      ⊎_elim (λ (m : i < w). omega (arith, place_old i m, I.on_map i m, A.placed j l k)) (λ (m : w ≤ i). omega (arith, A.placed i m (omega arith), A.placed j l k)) (lt_or_ge i w))
      (lt_or_ge j w)

  by_start : (i j : ℕ) → i < j → j < r → (win' i).place ≡ (win' j).place → (win' i).from < (win' j).from
  by_start i j h k e =
      ⊎_elim (λ (l : j < w). omega (arith, from_old i (omega arith), from_old j l, I.by_start i j h l (sym (place_old i (omega arith)) ∙ e ∙ place_old j l)))
      (λ (l : w ≤ j).
      ⊎_elim (λ (m : i < w). absurd (omega (arith, place_old i m, I.on_map i m, A.placed j l k))) (λ (m : w ≤ i). omega (arith, A.rise i j m h k, (A.are i m (omega arith)).long)) (lt_or_ge i w))
      (lt_or_ge j w)

  pub listed_next : Listed L C D (p + 1) r win'
  listed_next = record {
    on_map = each (λ v. v.place < p + 1) (λ i h. omega (arith, I.on_map i h)) (λ i h k. omega (arith, A.placed i h k));
    are = each (Is L C D) I.are new_is;
    all = found;
    by_place = by_place;
    by_start = by_start;
  }

-- ---- loads that are equal at each second

stretch_same : {L M : ℕ → ℕ} {c d a b : ℕ} → ((t : ℕ) → L t ≡ M t) → FreeStretch L c d a b → FreeStretch M c d a b
stretch_same {b = b} e v = record {
  in_day = v.in_day;
  long = v.long;
  free = λ t x y. omega (arith, e t, v.free t x y);
  left = λ x q. omega (arith, e x, v.left x q);
  right = λ h. omega (arith, e b, v.right h);
}

pub sweep_same : {L M : ℕ → ℕ} {c d p from n : ℕ} {was : ℕ → Span} {r : Option ℕ} {S E P : List ℕ} → ((t : ℕ) → L t ≡ M t) → Sweep L c d p from n was r S E P → Sweep M c d p from n was r S E P
sweep_same e A = record {
  len_s = A.len_s;
  len_e = A.len_e;
  len_p = A.len_p;
  bound = A.bound;
  overfull = λ q. let z = A.overfull q in (z.0, omega (arith, z.1, e z.0));
  fits = λ w h t. omega (arith, A.fits w h t, e t);
  few = A.few;
  swept = λ w h. let s = A.swept w h in record {
    some = s.some;
    placed = s.placed;
    are = λ i a b. stretch_same e (s.are i a b);
    all = λ a b v. s.all a b (stretch_same (λ t. sym (e t)) v);
    rise = s.rise;
    kept = s.kept;
  };
}

-- ---- the windows of the yard

module _ (Y : Yard) (B : List Row) {L : ℕ → ℕ → ℕ} {C D : List ℕ} {n w : ℕ} {win : ℕ → Span}
    (I : Listed L C D n w win) (O : Of Y C D n) (loads : (p t : ℕ) → load B p t ≡ L p t) where
  to_window : (v : Span) → v.place < n → Is L C D v → Window Y B v.place v.from v.to
  to_window v h x =
      let c = O.caps v.place h in
      record {
        in_day = x.in_day;
        long = omega (arith, O.durs v.place h, x.long);
        free = λ t a b. omega (arith, loads v.place t, x.free t a b);
        left = λ t e. omega (arith, loads v.place t, x.left t e);
        right = λ l. omega (arith, loads v.place v.to, x.right l);
      }

  of_window : (v : Span) → v.place < n → Window Y B v.place v.from v.to → Is L C D v
  of_window v h x =
      let c = O.caps v.place h in
      record {
        in_day = x.in_day;
        long = omega (arith, O.durs v.place h, x.long);
        free = λ t a b. omega (arith, loads v.place t, x.free t a b);
        left = λ t e. omega (arith, loads v.place t, x.left t e);
        right = λ l. omega (arith, loads v.place v.to, x.right l);
      }

  -- a window has room, so its place is on the map
  window_on_map : (v : Span) → Window Y B v.place v.from v.to → v.place < n
  window_on_map v x =
      ⊎_elim (λ h. h) (λ (h : n ≤ v.place). absurd (omega (arith, O.off v.place h, O.long v.place, x.long, x.free v.from (omega arith) (omega (arith, O.long v.place, x.long))))) (lt_or_ge v.place n)

  pub listed_windows : Windows Y B w win
  listed_windows = record {
    are = λ i h. to_window (win i) (I.on_map i h) (I.are i h);
    all = λ v x. let h = window_on_map v x in let f = I.all v h (of_window v h x) in (f.i, f.hi, f.is);
    by_place = I.by_place;
    by_start = I.by_start;
  }
