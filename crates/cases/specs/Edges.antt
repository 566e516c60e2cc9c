-- Where a free window starts and ends. It starts at 0 or at a row's exit, because only there the load falls; and it ends at the least
-- entry of a row at which the place is full, or with the day, because only at entries the load rises.
use Prim.Native.Nat.{ℕ, zero, suc, ◌+◌, ◌≤◌, ◌<◌, min}
use Rattle.std.specs.Prelude.{◌≡◌, refl, ◌⊎◌, Bool, true, false, ◌&&◌, length, eqb, ltb}
use Rattle.std.proofs.Common.{subst, inl, inr}
use Rattle.std.proofs.Math.Logic.{⊎_elim}
use mathlib.Core.List.{List, [], ◌∷◌}
use native.Mathlib.Omega.{arith}
use Rattle.std.proofs.Math.Dec.{leb}
use borrow.Author.Tests.{leb-true, ltb-true, eq-eqb, le-leb, lt-ltb}
use Rattle.laws.specs.Order.{lt_or_ge}
use Rattle.laws.specs.Tests.{true_or_false, not_both, and_in, and_l, and_r}
use Rattle.rules.specs.declared.Row.{Row}
use Rattle.rules.specs.Limits.{day}
use Rattle.rules.specs.Map.{Yard}
use Rattle.rules.specs.Rows.{row_at, covers, load}
use Rattle.rules.specs.Window.{Window}
use Rattle.lanes.specs.Stays.{bit_true, bit_false, covers_in, covers_out}

-- a row ends at place p at second t
pub record Ends (B : List Row) (p t : ℕ) : Type 0 where
  pub i : ℕ
  pub within : i < length B
  pub place : (row_at B i).place ≡ p
  pub exit : (row_at B i).exit ≡ t

-- a row begins at place p at second t
pub record Begins (B : List Row) (p t : ℕ) : Type 0 where
  pub i : ℕ
  pub within : i < length B
  pub place : (row_at B i).place ≡ p
  pub entry : (row_at B i).entry ≡ t

-- where the load falls from one second to the next, a row ends
pub fall_ends : (B : List Row) (p c : ℕ) → load B p (suc c) < load B p c → Ends B p (suc c)
unfolding load
fall_ends [] p c h = absurd (omega arith)
fall_ends (r ∷ rs) p c h = go (true_or_false (covers r.place r.entry r.exit p c)) (true_or_false (covers r.place r.entry r.exit p (suc c))) (λ h'. fall_ends rs p c h')
  where
    later : Ends rs p (suc c) → Ends (r ∷ rs) p (suc c)
    later e = record { i = suc e.i; within = omega (arith, e.within); place = e.place; exit = e.exit }

    go : (covers r.place r.entry r.exit p c ≡ true) ⊎ (covers r.place r.entry r.exit p c ≡ false)
        → (covers r.place r.entry r.exit p (suc c) ≡ true) ⊎ (covers r.place r.entry r.exit p (suc c) ≡ false)
        → (load rs p (suc c) < load rs p c → Ends rs p (suc c)) → Ends (r ∷ rs) p (suc c)
    go (inl a) (inl b) ih = later (ih (omega (arith, bit_true a, bit_true b)))
    go (inr a) (inl b) ih = later (ih (omega (arith, bit_false a, bit_true b)))
    go (inr a) (inr b) ih = later (ih (omega (arith, bit_false a, bit_false b)))
    go (inl a) (inr b) ih =
        let x = covers_out r.place r.entry r.exit p c a in
        ⊎_elim (λ (k : suc c < r.exit). absurd (not_both (covers_in r.place r.entry r.exit p (suc c) x.0 (omega arith) k) b))
        (λ k. record { i = 0; within = omega arith; place = x.0; exit = omega arith })
        (lt_or_ge (suc c) r.exit)

pub starts : {Y : Yard} {B : List Row} {p a b : ℕ} → 0 < Y.dur p → Window Y B p a b → (a ≡ 0) ⊎ Ends B p a
starts {a = zero} o w = inl refl
starts {B = B} {p = p} {a = suc c} o w = inr (fall_ends B p c (omega (arith, w.left c refl, w.free (suc c) (omega arith) (omega (arith, w.long)))))

-- where the load rises from one second to the next, a row begins
pub rise_begins : (B : List Row) (p c : ℕ) → load B p c < load B p (suc c) → Begins B p (suc c)
unfolding load
rise_begins [] p c h = absurd (omega arith)
rise_begins (r ∷ rs) p c h = go (true_or_false (covers r.place r.entry r.exit p c)) (true_or_false (covers r.place r.entry r.exit p (suc c))) (λ h'. rise_begins rs p c h')
  where
    later : Begins rs p (suc c) → Begins (r ∷ rs) p (suc c)
    later e = record { i = suc e.i; within = omega (arith, e.within); place = e.place; entry = e.entry }

    go : (covers r.place r.entry r.exit p c ≡ true) ⊎ (covers r.place r.entry r.exit p c ≡ false)
        → (covers r.place r.entry r.exit p (suc c) ≡ true) ⊎ (covers r.place r.entry r.exit p (suc c) ≡ false)
        → (load rs p c < load rs p (suc c) → Begins rs p (suc c)) → Begins (r ∷ rs) p (suc c)
    go (inl a) (inl b) ih = later (ih (omega (arith, bit_true a, bit_true b)))
    go (inl a) (inr b) ih = later (ih (omega (arith, bit_true a, bit_false b)))
    go (inr a) (inr b) ih = later (ih (omega (arith, bit_false a, bit_false b)))
    go (inr a) (inl b) ih =
        let x = covers_out r.place r.entry r.exit p (suc c) b in
        ⊎_elim (λ (k : r.entry < suc c). absurd (not_both (covers_in r.place r.entry r.exit p c x.0 (omega arith) (omega arith)) a))
        (λ k. record { i = 0; within = omega arith; place = x.0; entry = omega arith })
        (lt_or_ge r.entry (suc c))

abbrev pub pick : Bool → ℕ → ℕ → ℕ
pick true a b = a
pick false a b = b

module _ (c : ℕ) (B : List Row) (p a : ℕ) where
  -- the row begins at p after a, at a second at which p is full
  unfoldable pub stops : Row → Bool
  stops r = eqb r.place p && (ltb a r.entry && leb c (load B p r.entry))

  -- the least such entry, the day's end where there is none
  unfoldable pub end_in : List Row → ℕ
  unfolding stops
  end_in [] = day
  end_in (r ∷ rs) = pick (stops r) (min r.entry (end_in rs)) (end_in rs)

  stops_in : (r : Row) → r.place ≡ p → a < r.entry → c ≤ load B p r.entry → stops r ≡ true
  unfolding stops
  stops_in r x y z = and_in (eq-eqb _ _ x) (and_in (lt-ltb _ _ y) (le-leb _ _ z))

  stops_out : (r : Row) → stops r ≡ true → (a < r.entry) × (c ≤ load B p r.entry)
  unfolding stops
  stops_out r t =
      let q = and_r (eqb r.place p) (ltb a r.entry && leb c (load B p r.entry)) t in
      (ltb-true a r.entry (and_l (ltb a r.entry) (leb c (load B p r.entry)) q), leb-true c (load B p r.entry) (and_r (ltb a r.entry) (leb c (load B p r.entry)) q))

  pub end_le : (rs : List Row) (i : ℕ) → i < length rs → stops (row_at rs i) ≡ true → end_in rs ≤ (row_at rs i).entry
  unfolding end_in
  end_le [] i h t = absurd (omega arith)
  end_le (r ∷ rs) zero h t = rw t (omega arith)
  end_le (r ∷ rs) (suc i) h t = let ih = end_le rs i (omega arith) t in ⊎_elim (λ e. rw e (omega arith)) (λ e. rw e ih) (true_or_false (stops r))

  pub end_day : (rs : List Row) → end_in rs ≤ day
  unfolding end_in
  end_day [] = omega arith
  end_day (r ∷ rs) = let ih = end_day rs in ⊎_elim (λ e. rw e (omega arith)) (λ e. rw e ih) (true_or_false (stops r))

  pub end_full : (rs : List Row) → end_in rs < day → (a < end_in rs) × (c ≤ load B p (end_in rs))
  unfolding end_in
  end_full [] = λ h. absurd (omega arith)
  end_full (r ∷ rs) = ⊎_elim (λ e. rw e (both (stops_out r e) (end_full rs))) (λ e. rw e (end_full rs)) (true_or_false (stops r))
    where
      both : (a < r.entry) × (c ≤ load B p r.entry) → (end_in rs < day → (a < end_in rs) × (c ≤ load B p (end_in rs)))
          → min r.entry (end_in rs) < day → (a < min r.entry (end_in rs)) × (c ≤ load B p (min r.entry (end_in rs)))
      both x ih h =
          ⊎_elim (λ (q : r.entry < end_in rs). let m : min r.entry (end_in rs) ≡ r.entry = omega arith in rw m x)
          (λ (q : end_in rs ≤ r.entry). let m : min r.entry (end_in rs) ≡ end_in rs = omega arith in rw m (ih (omega arith)))
          (lt_or_ge r.entry (end_in rs))

  -- p is open from a up to there
  pub end_open : load B p a < c → (t : ℕ) → a ≤ t → t < end_in B → load B p t < c
  end_open o zero h k = let e : a ≡ 0 = omega arith in subst (λ x. load B p x < c) e o
  end_open o (suc t) h k = ⊎_elim (λ (x : a < suc t). next (end_open o t (omega arith) (omega arith)) x) (λ (x : suc t ≤ a). let e : a ≡ suc t = omega arith in subst (λ y. load B p y < c) e o) (lt_or_ge a (suc t))
    where
      full : load B p t < c → a < suc t → c ≤ load B p (suc t) → ⊥
      full y x z =
          let b = rise_begins B p t (omega arith) in
          let g = row_at B b.i in
          let e : g.entry ≡ suc t = b.entry in
          let st : stops g ≡ true = stops_in g b.place (omega arith) (rw e z) in
          omega (arith, end_le B b.i b.within st)

      next : load B p t < c → a < suc t → load B p (suc t) < c
      next y x = ⊎_elim (λ z. z) (λ z. absurd (full y x z)) (lt_or_ge (load B p (suc t)) c)

-- the window that starts at a
pub window_at : (Y : Yard) (B : List Row) (p a : ℕ) → a ≤ day → load B p a < Y.cap p → ((x : ℕ) → suc x ≡ a → Y.cap p ≤ load B p x) → a + Y.dur p ≤ end_in (Y.cap p) B p a B → Window Y B p a (end_in (Y.cap p) B p a B)
window_at Y B p a d o l h = record {
  in_day = end_day (Y.cap p) B p a B;
  long = h;
  free = end_open (Y.cap p) B p a o;
  left = l;
  right = λ k. (end_full (Y.cap p) B p a B k).1;
}
