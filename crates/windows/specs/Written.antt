-- Windows written so far: one turn of the sweep adds at most one, and those before it stay windows, because a row changes no load before its entry
-- and lowers none.
use Rattle.std.specs.Prelude.{ℕ, suc, ◌+◌, ◌-◌, ◌≤◌, ◌<◌, ◌≡◌, refl, List, length, set}
use Rattle.std.proofs.Common.{sym, ap, subst, ◌∙◌, ⊎_elim, arith, get_or-set_same, get_or-set_other}
use Rattle.laws.specs.Order.{lt_or_ge}
use Rattle.rules.specs.Limits.{day}
use Rattle.rules.specs.Window.{Span}
use Rattle.flat.specs.Flat.{span_at}
use Rattle.windows.specs.Sweep.{FreeStretch, span, Found, Swept}

-- v is written at number w, and nothing else changes
pub record Put (win : ℕ → Span) (w : ℕ) (v : Span) (win' : ℕ → Span) : Type 0 where
  pub new : win' w ≡ v
  pub old : (i : ℕ) → (i ≡ w → ⊥) → win' i ≡ win i

pub put_arrays : (S E P : List ℕ) (w p a b : ℕ) → w < length S → w < length E → w < length P → Put (span_at P S E) w (span p a b) (span_at (set P w p) (set S w a) (set E w b))
put_arrays S E P w p a b hS hE hP = record {
  new =
      let x = get_or-set_same P w p 0 hP in
      let y = get_or-set_same S w a 0 hS in
      let z = get_or-set_same E w b 0 hE in
      λ k. span (x k) (y k) (z k);
  old = λ i n.
      let x = get_or-set_other P w i p 0 n in
      let y = get_or-set_other S w i a 0 n in
      let z = get_or-set_other E w i b 0 n in
      λ k. span (x k) (y k) (z k);
}

module _ {win : ℕ → Span} {w : ℕ} {v : Span} {win' : ℕ → Span} (U : Put win w v win') where
  -- what is true of the old ones and of v
  pub put_are : (Q : Span → Type 0) (from : ℕ) → ((i : ℕ) → from ≤ i → i < w → Q (win i)) → Q v → (i : ℕ) → from ≤ i → i < w + 1 → Q (win' i)
  put_are Q from f q i a b =
      ⊎_elim (λ (l : i < w). subst Q (sym (U.old i (λ e. omega arith))) (f i a l)) (λ (l : w ≤ i). let e : i ≡ w = omega arith in subst Q (sym (ap win' e ∙ U.new)) q) (lt_or_ge i w)

  pub put_found : {from : ℕ} {u : Span} → Found win from w u → Found win' from (w + 1) u
  put_found f = record { i = f.i; lo = f.lo; hi = omega (arith, f.hi); is = U.old f.i (λ e. omega (arith, f.hi)) ∙ f.is }

  pub put_new : {from : ℕ} → from ≤ w → Found win' from (w + 1) v
  put_new h = record { i = w; lo = h; hi = omega arith; is = U.new }

  pub put_rise : (from : ℕ) → ((i j : ℕ) → from ≤ i → i < j → j < w → (win i).to < (win j).from) → ((i : ℕ) → from ≤ i → i < w → (win i).to < v.from)
      → (i j : ℕ) → from ≤ i → i < j → j < w + 1 → (win' i).to < (win' j).from
  put_rise from f g i j a b l =
      let x = ap (λ (u : Span). u.to) (U.old i (λ e. omega arith)) in
      ⊎_elim (λ (q : j < w). omega (arith, x, ap (λ (u : Span). u.from) (U.old j (λ e. omega arith)), f i j a b q))
      (λ (q : w ≤ j). let e : j ≡ w = omega arith in omega (arith, x, ap (λ (u : Span). u.from) (ap win' e ∙ U.new), g i a (omega arith)))
      (lt_or_ge j w)

-- the windows so far: T is the last entry, below which the load is final; from `free` on there is room
pub record Written (L : ℕ → ℕ) (c d p from : ℕ) (was : ℕ → Span) (T free w : ℕ) (win : ℕ → Span) : Type 0 where
  pub full : (t : ℕ) → T ≤ t → t < free → c ≤ L t
  pub room : (t : ℕ) → free ≤ t → L t < c
  pub left : (x : ℕ) → suc x ≡ free → c ≤ L x
  pub some : from ≤ w
  pub placed : (i : ℕ) → from ≤ i → i < w → (win i).place ≡ p
  pub are : (i : ℕ) → from ≤ i → i < w → FreeStretch L c d (win i).from (win i).to
  pub before : (i : ℕ) → from ≤ i → i < w → (win i).to < free
  pub all : (a b : ℕ) → FreeStretch L c d a b → a < free → Found win from w (span p a b)
  pub rise : (i j : ℕ) → from ≤ i → i < j → j < w → (win i).to < (win j).from
  pub kept : (i : ℕ) → i < from → win i ≡ was i

pub written_none : {L : ℕ → ℕ} {c d p from : ℕ} {win : ℕ → Span} → ((t : ℕ) → L t < c) → Written L c d p from win 0 0 from win
written_none h = record {
  full = λ t a b. absurd (omega arith);
  room = λ t a. h t;
  left = λ x e. absurd (omega arith);
  some = omega arith;
  placed = λ i a b. absurd (omega arith);
  are = λ i a b. absurd (omega arith);
  before = λ i a b. absurd (omega arith);
  all = λ a b v l. absurd (omega arith);
  rise = λ i j a b l. absurd (omega arith);
  kept = λ i a. refl;
}

-- a row that enters at t comes: Lo is the load before it, Ln with it
module _
    {Lo Ln : ℕ → ℕ} {c d p from : ℕ} {was : ℕ → Span} {T free w : ℕ} {win : ℕ → Span} {t : ℕ}
    (same : (s : ℕ) → s < t → Ln s ≡ Lo s)
    (grow : (s : ℕ) → Lo s ≤ Ln s)
    (I : Written Lo c d p from was T free w win)
    (past : free ≤ t)
    (d-pos : 1 ≤ d)
  where
    stretch_stays : {a b : ℕ} → b < t → FreeStretch Lo c d a b → FreeStretch Ln c d a b
    stretch_stays {a} {b} h v = record {
      in_day = v.in_day;
      long = v.long;
      free = λ s x y. omega (arith, same s (omega arith), v.free s x y);
      left = λ x e. omega (arith, v.left x e, grow x);
      right = λ y. omega (arith, v.right y, grow b);
    }

    ends_before : {a b : ℕ} → FreeStretch Ln c d a b → a < free → b < free
    ends_before {a} {b} v h =
        ⊎_elim (λ q. q) (λ (q : free ≤ b). absurd (omega (arith, I.left (free - 1) (omega arith), grow (free - 1), v.free (free - 1) (omega arith) (omega arith)))) (lt_or_ge b free)

    stretch_was : {a b : ℕ} → FreeStretch Ln c d a b → a < free → FreeStretch Lo c d a b
    stretch_was {a} {b} v h =
        let k = ends_before v h in
        record {
          in_day = v.in_day;
          long = v.long;
          free = λ s x y. omega (arith, grow s, v.free s x y);
          left = λ x e. omega (arith, v.left x e, same x (omega arith));
          right = λ y. omega (arith, v.right y, same b (omega arith));
        }

    found_old : (a b : ℕ) → FreeStretch Ln c d a b → a < free → Found win from w (span p a b)
    found_old a b v h = I.all a b (stretch_was v h) h

    are_old : (i : ℕ) → from ≤ i → i < w → FreeStretch Ln c d (win i).from (win i).to
    are_old i a b = stretch_stays (omega (arith, I.before i a b)) (I.are i a b)

    left_old : (x : ℕ) → suc x ≡ free → c ≤ Ln x
    left_old x e = omega (arith, I.left x e, grow x)

    -- there is still room at t
    pub written_room : ((s : ℕ) → t ≤ s → Ln s < c) → Written Ln c d p from was t free w win
    written_room h = record {
      full = λ s a b. absurd (omega arith);
      room = λ s a. ⊎_elim (λ (q : s < t). omega (arith, same s q, I.room s a)) (λ (q : t ≤ s). h s q) (lt_or_ge s t);
      left = left_old;
      some = I.some;
      placed = I.placed;
      are = are_old;
      before = I.before;
      all = found_old;
      rise = I.rise;
      kept = I.kept;
    }

    -- from t to u there is none
    module _ {u : ℕ} (up : t < u) (t_day : t < day) (none : (s : ℕ) → t ≤ s → s < u → c ≤ Ln s) (some_room : (s : ℕ) → u ≤ s → Ln s < c) where
      -- a window that starts between free and u is the one from free to t
      the_one : (a b : ℕ) → FreeStretch Ln c d a b → free ≤ a → a < u → (a ≡ free) × (b ≡ t)
      the_one a b v l h =
          let l1 = v.long in
          let at : a < t = ⊎_elim (λ q. q) (λ (q : t ≤ a). absurd (omega (arith, none a q h, v.free a (omega arith) (omega arith)))) (lt_or_ge a t) in
          let bt : b ≤ t = ⊎_elim (λ (q : t < b). absurd (omega (arith, none t (omega arith) up, v.free t (omega arith) q))) (λ q. q) (lt_or_ge t b) in
          let af : a ≤ free = ⊎_elim (λ (q : free < a). absurd (omega (arith, v.left (a - 1) (omega arith), same (a - 1) (omega arith), I.room (a - 1) (omega arith)))) (λ q. q) (lt_or_ge free a) in
          let tb : t ≤ b = ⊎_elim (λ (q : b < t). absurd (omega (arith, v.right (omega arith), same b q, I.room b (omega arith)))) (λ q. q) (lt_or_ge b t) in
          (omega arith, omega arith)

      -- the stretch up to t is shorter than the duration
      pub written_short : t < free + d → Written Ln c d p from was t u w win
      written_short k = record {
        full = none;
        room = some_room;
        left = λ x e. none x (omega arith) (omega arith);
        some = I.some;
        placed = I.placed;
        are = are_old;
        before = λ i a b. omega (arith, I.before i a b);
        all = λ a b v l. ⊎_elim (λ (q : a < free). found_old a b v q) (λ (q : free ≤ a). let z = the_one a b v q l in absurd (omega (arith, v.long, z.0, z.1))) (lt_or_ge a free);
        rise = I.rise;
        kept = I.kept;
      }

      new_window : free + d ≤ t → FreeStretch Ln c d free t
      new_window k = record {
        in_day = omega arith;
        long = k;
        free = λ s a b. omega (arith, same s b, I.room s a);
        left = left_old;
        right = λ _. none t (omega arith) up;
      }

      -- it is a window and is written
      pub written_more : {win' : ℕ → Span} → free + d ≤ t → Put win w (span p free t) win' → Written Ln c d p from was t u (w + 1) win'
      written_more {win'} k U = record {
        full = none;
        room = some_room;
        left = λ x e. none x (omega arith) (omega arith);
        some = omega (arith, I.some);
        placed = put_are U (λ v. v.place ≡ p) from I.placed refl;
        are = put_are U (λ v. FreeStretch Ln c d v.from v.to) from are_old (new_window k);
        before = put_are U (λ v. v.to < u) from (λ i a b. omega (arith, I.before i a b)) up;
        all = λ a b v l.
            ⊎_elim (λ (q : a < free). put_found U (found_old a b v q))
            (λ (q : free ≤ a). let z = the_one a b v q l in subst (Found win' from (w + 1)) (λ k. span p (sym z.0 k) (sym z.1 k)) (put_new U I.some))
            (lt_or_ge a free);
        rise = put_rise U from I.rise I.before;
        kept = λ i a. U.old i (λ e. omega (arith, I.some)) ∙ I.kept i a;
      }

-- no row is left
module _
    {L : ℕ → ℕ} {c d p from : ℕ} {was : ℕ → Span} {T free w : ℕ} {win : ℕ → Span}
    (I : Written L c d p from was T free w win)
    (d-pos : 1 ≤ d)
  where
    last_one : (a b : ℕ) → FreeStretch L c d a b → free ≤ a → (a ≡ free) × (b ≡ day)
    last_one a b v l =
        let l1 = v.long in
        let l2 = v.in_day in
        let af : a ≤ free = ⊎_elim (λ (q : free < a). absurd (omega (arith, v.left (a - 1) (omega arith), I.room (a - 1) (omega arith)))) (λ q. q) (lt_or_ge free a) in
        let tb : day ≤ b = ⊎_elim (λ (q : b < day). absurd (omega (arith, v.right q, I.room b (omega arith)))) (λ q. q) (lt_or_ge b day) in
        (omega arith, omega arith)

    pub swept_short : day < free + d → Swept L c d p from was w win
    swept_short k = record {
      some = I.some;
      placed = I.placed;
      are = I.are;
      all = λ a b v. ⊎_elim (λ (q : a < free). I.all a b v q) (λ (q : free ≤ a). let z = last_one a b v q in absurd (omega (arith, v.long, z.0, z.1))) (lt_or_ge a free);
      rise = I.rise;
      kept = I.kept;
    }

    pub swept_more : {win' : ℕ → Span} → free + d ≤ day → Put win w (span p free day) win' → Swept L c d p from was (w + 1) win'
    swept_more {win'} k U = record {
      some = omega (arith, I.some);
      placed = put_are U (λ v. v.place ≡ p) from I.placed refl;
      are = put_are U (λ v. FreeStretch L c d v.from v.to) from I.are (record { in_day = omega arith; long = k; free = λ s a b. I.room s a; left = I.left; right = λ q. absurd (omega arith) });
      all = λ a b v.
          ⊎_elim (λ (q : a < free). put_found U (I.all a b v q))
          (λ (q : free ≤ a). let z = last_one a b v q in subst (Found win' from (w + 1)) (λ k. span p (sym z.0 k) (sym z.1 k)) (put_new U I.some))
          (lt_or_ge a free);
      rise = put_rise U from I.rise I.before;
      kept = λ i a. U.old i (λ e. omega (arith, I.some)) ∙ I.kept i a;
    }
