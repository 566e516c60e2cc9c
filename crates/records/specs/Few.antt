-- A chosen plan has at most as many stays as the map has places and the book rows together. Each window is marked: one that begins with the day by
-- its place, any other by a booked row of its place that ends where it begins. Windows with one mark are one, the chosen plan enters each of its
-- windows at that window's earliest entry, and these fall at each step back; so no mark comes twice.
use Rattle.std.specs.Prelude.{ℕ, zero, suc, ◌+◌, ◌≤◌, ◌<◌, ◌≡◌, refl, ◌⊎◌, true, false, List, [], ◌∷◌, length, get_or}
use Rattle.std.proofs.Common.{sym, ap, ◌∙◌, inl, inr, ⊎_elim, arith}
use Rattle.laws.specs.Order.{lt_or_ge, eq_or_ne}
use Rattle.laws.specs.Tests.{true_or_false}
use Rattle.rules.specs.declared.Row.{Row}
use Rattle.rules.specs.Map.{Yard}
use Rattle.rules.specs.Rows.{row_at, covers, bit, load}
use Rattle.rules.specs.Plan.{Stay}
use Rattle.rules.specs.Window.{Window, Span, Earliest}
use Rattle.rules.specs.Chosen.{Back, first, prior, Chosen}
use Rattle.lanes.specs.Yards.{YardRules}
use Rattle.lanes.specs.Stays.{bit_true, bit_false, covers_in, covers_out}
use Rattle.lanes.specs.Windows.{same_window}

-- ---- numbers below N that are all different are at most N

below_not : (a n : ℕ) → a < suc n → (a ≡ n → ⊥) → a < n
below_not a n h ne = ⊎_elim (λ (c : a < n). c) (λ (c : n ≤ a). absurd (ne (omega arith))) (lt_or_ge a n)

-- the last number takes the place of the one that is N, where there is one
module _ (N m : ℕ) (f : ℕ → ℕ) (below : (i : ℕ) → i < suc m → f i < suc N) (once : (i j : ℕ) → i < suc m → j < suc m → f i ≡ f j → i ≡ j) where
  abbrev stand : (j : ℕ) → (f j ≡ N) ⊎ (f j ≡ N → ⊥) → ℕ
  stand j (inl e) = f m
  stand j (inr e) = f j

  stand_below : (j : ℕ) → j < m → (d : (f j ≡ N) ⊎ (f j ≡ N → ⊥)) → stand j d < N
  stand_below j h (inl e) = below_not (f m) N (below m (omega arith)) (λ q. let z : j ≡ m = once j m (omega arith) (omega arith) (e ∙ sym q) in omega arith)
  stand_below j h (inr e) = below_not (f j) N (below j (omega arith)) e

  stand_once : (i j : ℕ) → i < m → j < m → (d : (f i ≡ N) ⊎ (f i ≡ N → ⊥)) (g : (f j ≡ N) ⊎ (f j ≡ N → ⊥)) → stand i d ≡ stand j g → i ≡ j
  stand_once i j h k (inl a) (inl b) e = once i j (omega arith) (omega arith) (a ∙ sym b)
  stand_once i j h k (inl a) (inr b) e = let z : m ≡ j = once m j (omega arith) (omega arith) e in absurd (omega arith)
  stand_once i j h k (inr a) (inl b) e = let z : i ≡ m = once i m (omega arith) (omega arith) e in absurd (omega arith)
  stand_once i j h k (inr a) (inr b) e = once i j (omega arith) (omega arith) e

pub all_different : (N n : ℕ) (f : ℕ → ℕ) → ((i : ℕ) → i < n → f i < N) → ((i j : ℕ) → i < n → j < n → f i ≡ f j → i ≡ j) → n ≤ N
all_different N zero f below once = omega arith
all_different zero (suc m) f below once = absurd (omega (arith, below 0 (omega arith)))
all_different (suc N) (suc m) f below once =
    let h : m ≤ N =
    all_different N m (λ j. stand N m f below once j (eq_or_ne (f j) N))
    (λ j k. stand_below N m f below once j k (eq_or_ne (f j) N))
    (λ i j h k e. stand_once N m f below once i j h k (eq_or_ne (f i) N) (eq_or_ne (f j) N) e) in
    omega arith

-- ---- where the load of a place falls, a row ends

pub record EndsAt (rows : List Row) (p t : ℕ) : Type 0 where
  pub row : ℕ
  pub within : row < length rows
  pub place : (row_at rows row).place ≡ p
  pub exit : (row_at rows row).exit ≡ t

ends_at : (rows : List Row) (p t : ℕ) → load rows p (suc t) < load rows p t → EndsAt rows p (suc t)
unfolding load
ends_at [] p t h = absurd (omega arith)
ends_at (r ∷ rows) p t h = go (true_or_false (covers r.place r.entry r.exit p t)) (λ k. ends_at rows p t k)
  where
    further : bit (covers r.place r.entry r.exit p t) ≤ bit (covers r.place r.entry r.exit p (suc t)) → (load rows p (suc t) < load rows p t → EndsAt rows p (suc t)) → EndsAt (r ∷ rows) p (suc t)
    further l next = let x = next (omega arith) in record { row = suc x.row; within = omega (arith, x.within); place = x.place; exit = x.exit }

    go : (covers r.place r.entry r.exit p t ≡ true) ⊎ (covers r.place r.entry r.exit p t ≡ false) → (load rows p (suc t) < load rows p t → EndsAt rows p (suc t)) → EndsAt (r ∷ rows) p (suc t)
    go (inr n) next = further (omega (arith, bit_false n)) next
    go (inl y) next =
        let c = covers_out r.place r.entry r.exit p t y in
        ⊎_elim
        (λ (k : suc t < r.exit).
        further (omega (arith, bit_true y, bit_true (covers_in r.place r.entry r.exit p (suc t) c.0 (omega (arith, c.1)) k))) next)
        (λ (k : r.exit ≤ suc t). record { row = 0; within = omega arith; place = c.0; exit = omega (arith, c.2) })
        (lt_or_ge (suc t) r.exit)

module _ (Y : Yard) (rows : List Row) (rules : YardRules Y) where
  -- ---- the mark of a window

  abbrev IsWindow : Span → Type 0
  IsWindow w = Window Y rows w.place w.from w.to

  abbrev Marks : Span → ℕ → Type 0
  Marks w n =
      ((w.from ≡ 0) × (n ≡ w.place) × (n < Y.places))
      ⊎ ((x : EndsAt rows w.place w.from) × (n ≡ Y.places + x.row) × (0 < w.from))

  open_at : (w : Span) → IsWindow w → load rows w.place w.from < Y.cap w.place
  open_at w W = W.free w.from (omega arith) (omega (arith, W.long, rules.long w.place))

  on_map : (w : Span) → IsWindow w → w.place < Y.places
  on_map w W = ⊎_elim (λ (c : w.place < Y.places). c) (λ (c : Y.places ≤ w.place). absurd (omega (arith, rules.off w.place c, open_at w W))) (lt_or_ge w.place Y.places)

  mark : (w : Span) → IsWindow w → (n : ℕ) × (n < Y.places + length rows) × Marks w n
  mark w W = go w.from refl
    where
      go : (a : ℕ) → w.from ≡ a → (n : ℕ) × (n < Y.places + length rows) × Marks w n
      go zero e = (w.place, omega (arith, on_map w W), inl (e, refl, on_map w W))
      go (suc c) e =
          let o : load rows w.place (suc c) < Y.cap w.place = rw e at (open_at w W) in
          let x = ends_at rows w.place c (omega (arith, W.left c (sym e), o)) in (
            Y.places + x.row,
            omega (arith, x.within),
            inr (record { row = x.row; within = x.within; place = x.place; exit = x.exit ∙ sym e }, refl, omega arith),
          )

  -- windows with one mark have one place and one start
  mark_once : (w v : Span) (n : ℕ) → Marks w n → Marks v n → (w.place ≡ v.place) × (w.from ≡ v.from)
  mark_once w v n (inl a) (inl b) = (omega (arith, a.1, b.1), omega (arith, a.0, b.0))
  mark_once w v n (inl a) (inr b) = absurd (omega (arith, a.2, b.1))
  mark_once w v n (inr a) (inl b) = absurd (omega (arith, a.1, b.2))
  mark_once w v n (inr a) (inr b) =
      let e : a.0.row ≡ b.0.row = omega (arith, a.1, b.1) in
      (sym a.0.place ∙ ap (λ i. (row_at rows i).place) e ∙ b.0.place, sym a.0.exit ∙ ap (λ i. (row_at rows i).exit) e ∙ b.0.exit)

  same_span : (w v : Span) → IsWindow w → IsWindow v → w.place ≡ v.place → w.from ≡ v.from → w ≡ v
  same_span w v x z p q =
      let y : Window Y rows v.place w.from w.to = rw p at x in
      let r = same_window Y rows v.place w.from y z (omega arith) (omega (arith, y.long, rules.long v.place)) (omega arith) (omega (arith, z.long, rules.long v.place)) in
      λ i. record { place = p i; from = q i; to = r.1 i }

  -- ---- the windows of the chain, from the one that was come to last

  record Visit : Type 0 where
    span : Span
    second : ℕ
    number : ℕ

  abbrev visit_at : List Visit → ℕ → Visit
  visit_at vs i = get_or vs i (record { span = record { place = 0; from = 0; to = 0 }; second = 0; number = 0 })

  module _ (start dest s : ℕ) where
    record Visits (u : ℕ) (vs : List Visit) : Type 0 where
      earliest : (i : ℕ) → i < length vs → Earliest Y rows start s (visit_at vs i).span (visit_at vs i).second
      marked : (i : ℕ) → i < length vs → Marks (visit_at vs i).span (visit_at vs i).number
      below : (i : ℕ) → i < length vs → (visit_at vs i).number < Y.places + length rows
      from : (i : ℕ) → i < length vs → u ≤ (visit_at vs i).second
      rises : (i j : ℕ) → i < j → j < length vs → (visit_at vs i).second < (visit_at vs j).second

    -- one more
    visit : (w : Span) (e : ℕ) (W : IsWindow w) {u : ℕ} {vs : List Visit} → Earliest Y rows start s w e → e < u → Visits u vs → Visits e (record { span = w; second = e; number = (mark w W).0 } ∷ vs)
    visit w e W {u} {vs} E l A = record { earliest = earliest; marked = marked; below = below; from = from; rises = rises }
      where
        all : List Visit
        all = record { span = w; second = e; number = (mark w W).0 } ∷ vs

        earliest : (i : ℕ) → i < length all → Earliest Y rows start s (visit_at all i).span (visit_at all i).second
        earliest zero h = E
        earliest (suc i) h = A.earliest i (omega arith)

        marked : (i : ℕ) → i < length all → Marks (visit_at all i).span (visit_at all i).number
        marked zero h = (mark w W).2
        marked (suc i) h = A.marked i (omega arith)

        below : (i : ℕ) → i < length all → (visit_at all i).number < Y.places + length rows
        below zero h = (mark w W).1
        below (suc i) h = A.below i (omega arith)

        from : (i : ℕ) → i < length all → e ≤ (visit_at all i).second
        from zero h = omega arith
        from (suc i) h = omega (arith, A.from i (omega arith))

        rises : (i j : ℕ) → i < j → j < length all → (visit_at all i).second < (visit_at all j).second
        rises i zero h k = absurd (omega arith)
        rises zero (suc j) h k = omega (arith, A.from j (omega arith))
        rises (suc i) (suc j) h k = A.rises i j (omega arith) (omega arith)

    none : (u : ℕ) → Visits u []
    none u = record {
      earliest = λ i h. absurd (omega arith);
      marked = λ i h. absurd (omega arith);
      below = λ i h. absurd (omega arith);
      from = λ i h. absurd (omega arith);
      rises = λ i j h k. absurd (omega arith);
    }

    -- one window is entered at one second
    same_second : {w v : Span} {d e : ℕ} → w ≡ v → Earliest Y rows start s w d → Earliest Y rows start s v e → d ≡ e
    same_second {w} {v} {d} {e} p E F =
        let E' : Earliest Y rows start s v d = rw p at E in
        omega (arith, E'.least e F.enters, F.least d E'.enters)

    visits_few : {u : ℕ} (vs : List Visit) → Visits u vs → length vs ≤ Y.places + length rows
    visits_few vs A = all_different (Y.places + length rows) (length vs) (λ i. (visit_at vs i).number) A.below once
      where
        same : (i j : ℕ) → i < length vs → j < length vs → (visit_at vs i).number ≡ (visit_at vs j).number → (visit_at vs i).second ≡ (visit_at vs j).second
        same i j h k e =
            let a = A.earliest i h in
            let b = A.earliest j k in
            let m : Marks (visit_at vs i).span (visit_at vs j).number = rw e at (A.marked i h) in
            let r = mark_once (visit_at vs i).span (visit_at vs j).span (visit_at vs j).number m (A.marked j k) in
            same_second (same_span (visit_at vs i).span (visit_at vs j).span a.enters.window b.enters.window r.0 r.1) a b

        once : (i j : ℕ) → i < length vs → j < length vs → (visit_at vs i).number ≡ (visit_at vs j).number → i ≡ j
        once i j h k e =
            let z = same i j h k e in
            ⊎_elim (λ (c : i < j). absurd (omega (arith, A.rises i j c k, z)))
            (λ (c : j ≤ i). ⊎_elim (λ (d : j < i). absurd (omega (arith, A.rises j i d h, z))) (λ (d : i ≤ j). omega arith) (lt_or_ge j i))
            (lt_or_ge i j)

    back_few : {v : Span} {u : ℕ} {after plan : List Stay} → Back Y rows start dest s v u after plan → (vs : List Visit) → Visits u vs → length vs ≡ length after
        → length plan ≤ Y.places + length rows
    back_few (first p e) vs A l = omega (arith, visits_few vs A)
    back_few (prior {v = v} {w = w} {u = u} {e = e} h k b) vs A l =
        let t = k.yields.step in
        back_few b (record { span = w; second = e; number = (mark w k.earliest.enters.window).0 } ∷ vs)
        (visit w e k.earliest.enters.window k.earliest (omega (arith, t.after, rules.long w.place)) A) (ap suc l)

    pub chosen_few : {plan : List Stay} → Chosen Y rows start dest s plan → length plan ≤ Y.places + length rows
    chosen_few c =
        let E = c.goal.earliest in
        back_few c.back (record { span = c.w; second = c.e; number = (mark c.w E.enters.window).0 } ∷ [])
        (visit c.w c.e E.enters.window E (omega arith) (none (suc c.e))) refl
