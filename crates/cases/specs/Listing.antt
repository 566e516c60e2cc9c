-- All free windows of a book, as a list that computes. Each member is a window, and each window is a member: it starts at 0 or at a row's
-- exit, all of which are tried, and its end is then the one that the rows give.
use Prim.Native.Nat.{ℕ, zero, suc, ◌+◌, ◌≤◌, ◌<◌}
use Rattle.std.specs.Prelude.{◌≡◌, ◌⊎◌, Bool, ◌&&◌, length, ltb}
use Rattle.std.proofs.Math.Path.{refl, subst}
use Rattle.std.proofs.Common.{sym, inl, inr}
use Rattle.std.proofs.Math.Logic.{⊎_elim}
use Rattle.std.proofs.Math.Bool.{true, false}
use mathlib.Core.List.Memᴰ
use mathlib.Core.List.{List, [], ◌∷◌, ◌++◌, Memᴰ}
use native.Mathlib.Omega.{arith}
use Rattle.std.proofs.Math.Dec.{eqb, leb}
use borrow.Author.Tests.{leb-true, ltb-true, eq-eqb, le-leb, lt-ltb}
use Rattle.laws.specs.Order.{lt_or_ge}
use Rattle.laws.specs.Tests.{true_or_false, and_in, and_l, and_r}
use Rattle.rules.specs.declared.Row.{Row}
use Rattle.rules.specs.Map.{Yard}
use Rattle.rules.specs.Rows.{row_at, load}
use Rattle.rules.specs.Window.{Window, Span}
use Rattle.cases.specs.Edges.{Ends, starts, end_in, end_day, end_full, end_open, window_at}

module _ (Y : Yard) (B : List Row) where
  -- p is open at a and full just before
  unfoldable pub start_b : ℕ → ℕ → Bool
  start_b p zero = ltb (load B p 0) (Y.cap p)
  start_b p (suc x) = ltb (load B p (suc x)) (Y.cap p) && leb (Y.cap p) (load B p x)

  unfoldable pub end_of : ℕ → ℕ → ℕ
  end_of p a = end_in (Y.cap p) B p a B

  unfoldable pub good_b : ℕ → ℕ → Bool
  unfolding start_b end_of
  good_b p a = start_b p a && leb (a + Y.dur p) (end_of p a)

  abbrev pub span_at : ℕ → ℕ → Span
  span_at p a = record { place = p; from = a; to = end_of p a }

  unfoldable pub put : ℕ → ℕ → List Span → List Span
  unfolding good_b
  put p a ws = elim (good_b p a) [ true ↦ span_at p a ∷ ws | false ↦ ws ]

  unfoldable pub from_rows : List Row → ℕ → List Span
  unfolding put
  from_rows [] p = put p 0 []
  from_rows (r ∷ rs) p = elim (eqb r.place p) [ true ↦ put p r.exit (from_rows rs p) | false ↦ from_rows rs p ]

  unfoldable pub windows_below : ℕ → List Span
  unfolding from_rows
  windows_below zero = []
  windows_below (suc p) = from_rows B p ++ windows_below p

  -- ---- each is a window

  good_window : (p a : ℕ) → good_b p a ≡ true → Window Y B p a (end_of p a)
  unfolding good_b end_of start_b
  good_window p zero g =
      let x = ltb-true (load B p 0) (Y.cap p) (and_l (start_b p 0) (leb (0 + Y.dur p) (end_of p 0)) g) in
      window_at Y B p 0 (omega arith) x (λ c e. absurd (omega arith)) (leb-true (0 + Y.dur p) (end_of p 0) (and_r (start_b p 0) (leb (0 + Y.dur p) (end_of p 0)) g))
  good_window p (suc c) g =
      let s = and_l (start_b p (suc c)) (leb (suc c + Y.dur p) (end_of p (suc c))) g in
      let x = ltb-true (load B p (suc c)) (Y.cap p) (and_l (ltb (load B p (suc c)) (Y.cap p)) (leb (Y.cap p) (load B p c)) s) in
      let y = leb-true (Y.cap p) (load B p c) (and_r (ltb (load B p (suc c)) (Y.cap p)) (leb (Y.cap p) (load B p c)) s) in
      let z = leb-true (suc c + Y.dur p) (end_of p (suc c)) (and_r (start_b p (suc c)) (leb (suc c + Y.dur p) (end_of p (suc c))) g) in
      window_at Y B p (suc c) (omega (arith, end_day (Y.cap p) B p (suc c) B)) x (λ d e. let q : c ≡ d = omega arith in subst (λ k. Y.cap p ≤ load B p k) q y) z

  Are : List Span → Type 0
  Are ws = (w : Span) → Memᴰ w ws → Window Y B w.place w.from w.to

  put_are : (p a : ℕ) (ws : List Span) → Are ws → Are (put p a ws)
  unfolding put Are
  put_are p a ws h = go (good_b p a) refl
    where
      go : (t : Bool) → good_b p a ≡ t → (w : Span) → Memᴰ w (elim t as (λ _. List Span) [ true ↦ span_at p a ∷ ws | false ↦ ws ]) → Window Y B w.place w.from w.to
      go true e w m = ⊎_elim (λ q. rw q (good_window p a e)) (λ m'. h w m') (Memᴰ.cases_cons m)
      go false e w m = h w m

  rows_are : (rs : List Row) (p : ℕ) → Are (from_rows rs p)
  unfolding from_rows Are
  rows_are [] p = put_are p 0 [] (λ w m. absurd (Memᴰ.not-nil m))
  rows_are (r ∷ rs) p = ⊎_elim (λ (e : eqb r.place p ≡ true). rw (e, from_rows) (put_are p r.exit (from_rows rs p) (rows_are rs p))) (λ (e : eqb r.place p ≡ false). rw (e, from_rows) (rows_are rs p)) (true_or_false (eqb r.place p))

  pub windows_are : (n : ℕ) (w : Span) → Memᴰ w (windows_below n) → Window Y B w.place w.from w.to
  unfolding windows_below Are
  windows_are zero w m = absurd (Memᴰ.not-nil m)
  windows_are (suc p) w m = ⊎_elim (λ k. rows_are B p w k) (λ k. windows_are p w k) (Memᴰ.append_cases (from_rows B p) m)

  -- ---- each one is there

  module _ (dur_pos : (p : ℕ) → 0 < Y.dur p) where
    end_is : {p a b : ℕ} → Window Y B p a b → end_of p a ≡ b
    unfolding end_of
    end_is {p} {a} {b} w =
        let l = w.long in
        let d = dur_pos p in
        let d' = w.in_day in
        let o : load B p a < Y.cap p = w.free a (omega arith) (omega arith) in
        let x : b ≤ end_of p a = ⊎_elim (λ (q : end_of p a < b). let f = end_full (Y.cap p) B p a B (omega arith) in absurd (omega (arith, f.1, w.free (end_of p a) (omega (arith, f.0)) q))) (λ q. q) (lt_or_ge (end_of p a) b) in
        let y : end_of p a ≤ b = ⊎_elim (λ (q : b < end_of p a). absurd (omega (arith, end_open (Y.cap p) B p a o b (omega arith) q, w.right (omega (arith, end_day (Y.cap p) B p a B))))) (λ q. q) (lt_or_ge b (end_of p a)) in
        omega arith

    good_of : {p a b : ℕ} → Window Y B p a b → good_b p a ≡ true
    unfolding good_b start_b
    good_of {p} {a = zero} {b} w = and_in (lt-ltb _ _ (w.free 0 (omega arith) (omega (arith, w.long, dur_pos p)))) (le-leb (0 + Y.dur p) (end_of p 0) (rw (end_is w) w.long))
    good_of {p} {a = suc c} {b} w = and_in (and_in (lt-ltb _ _ (w.free (suc c) (omega arith) (omega (arith, w.long, dur_pos p)))) (le-leb _ _ (w.left c refl))) (le-leb (suc c + Y.dur p) (end_of p (suc c)) (rw (end_is w) w.long))

    put_new : (p a : ℕ) (ws : List Span) → good_b p a ≡ true → Memᴰ (span_at p a) (put p a ws)
    unfolding put
    put_new p a ws g = rw (g, put) (Memᴰ.head refl)

    put_old : (p a : ℕ) (ws : List Span) {w : Span} → Memᴰ w ws → Memᴰ w (put p a ws)
    unfolding put
    put_old p a ws m = ⊎_elim (λ (e : good_b p a ≡ true). rw (e, put) (Memᴰ.tail m)) (λ (e : good_b p a ≡ false). rw (e, put) m) (true_or_false (good_b p a))

    ends_cases : {r : Row} {rs : List Row} {p a : ℕ} → Ends (r ∷ rs) p a → ((r.place ≡ p) × (r.exit ≡ a)) ⊎ Ends rs p a
    ends_cases {r} {rs} {p} {a} e = go e.i e.within e.place e.exit
      where
        go : (i : ℕ) → i < length (r ∷ rs) → (row_at (r ∷ rs) i).place ≡ p → (row_at (r ∷ rs) i).exit ≡ a → ((r.place ≡ p) × (r.exit ≡ a)) ⊎ Ends rs p a
        go zero h x y = inl (x, y)
        go (suc i) h x y = inr (record { i = i; within = omega arith; place = x; exit = y })

    -- whether the start stands among the later rows, or is this row's exit
    first_or_later : {r : Row} {rs : List Row} {p a : ℕ} → (a ≡ 0) ⊎ Ends (r ∷ rs) p a → ((r.place ≡ p) × (r.exit ≡ a)) ⊎ ((a ≡ 0) ⊎ Ends rs p a)
    first_or_later (inl e) = inr (inl e)
    first_or_later (inr e) = ⊎_elim inl (λ x. inr (inr x)) (ends_cases e)

    rows_has : (rs : List Row) (p a : ℕ) → (a ≡ 0) ⊎ Ends rs p a → good_b p a ≡ true → Memᴰ (span_at p a) (from_rows rs p)
    unfolding from_rows
    rows_has [] p a (inl e) g = subst (λ x. Memᴰ (span_at p a) (put p x [])) e (put_new p a [] g)
    rows_has [] p a (inr e) g = absurd (omega (arith, e.within))
    rows_has (r ∷ rs) p a s g =
        ⊎_elim (λ (x : (r.place ≡ p) × (r.exit ≡ a)). rw (eq-eqb r.place p x.0, from_rows) (subst (λ y. Memᴰ (span_at p a) (put p y (from_rows rs p))) (sym x.1) (put_new p a (from_rows rs p) g)))
        (λ (s' : (a ≡ 0) ⊎ Ends rs p a). let m = rows_has rs p a s' g in ⊎_elim (λ (e : eqb r.place p ≡ true). rw (e, from_rows) (put_old p r.exit (from_rows rs p) m)) (λ (e : eqb r.place p ≡ false). rw (e, from_rows) m) (true_or_false (eqb r.place p)))
        (first_or_later s)

    windows_has : (n p : ℕ) (w : Span) → p < n → Memᴰ w (from_rows B p) → Memᴰ w (windows_below n)
    unfolding windows_below
    windows_has zero p w h m = absurd (omega arith)
    windows_has (suc n) p w h m =
        ⊎_elim (λ (q : p < n). Memᴰ.append_right (from_rows B n) (windows_has n p w q m))
        (λ (q : n ≤ p). let e : p ≡ n = omega arith in Memᴰ.append_left (windows_below n) (subst (λ x. Memᴰ w (from_rows B x)) e m))
        (lt_or_ge p n)

    pub windows_all : (n : ℕ) (w : Span) → w.place < n → Window Y B w.place w.from w.to → Memᴰ w (windows_below n)
    windows_all n w h x =
        let e : span_at w.place w.from ≡ w = λ i. record { place = w.place; from = w.from; to = end_is x i } in
        subst (λ v. Memᴰ v (windows_below n)) e (windows_has n w.place (span_at w.place w.from) h (rows_has B w.place w.from (starts (dur_pos w.place) x) (good_of x)))
