-- The test and the definition are the same.
use Rattle.std.specs.Prelude.{ℕ, zero, suc, ◌+◌, ◌≤◌, ◌<◌, ◌≡◌, refl, ◌⊎◌, true, length, get_or}
use Rattle.std.proofs.Common.{sym, ap, ap₂, subst, ◌∙◌, inl, inr, ⊎_elim, arith}
use mathlib.Core.List.Memᴰ
use mathlib.Core.List.{List, [], ◌∷◌, map, Memᴰ}
use Rattle.std.proofs.Math.Decide.{ℕ_discrete}
use Rattle.laws.specs.Order.{eq_or_ne}
use Rattle.laws.specs.Tests.{not_both}
use Rattle.rules.specs.declared.Row.{Row}
use Rattle.rules.specs.Limits.{day}
use Rattle.rules.specs.Map.{Yard}
use Rattle.rules.specs.RowLaws.{row_eq}
use Rattle.rules.specs.Plan.{Stay, stay_at, Plan, stay_row, run_rows}
use Rattle.rules.specs.Book.{Whole}
use Rattle.lanes.specs.Yards.{YardRules}
use Rattle.chains.specs.Test.{Last, Follows, Successor, RowOk, Tested}

-- an element of a list for which P holds, or none
find : {A : Type 0} (P : A → Type 0) → ((x : A) → Dec (P x)) → (l : List A) → ((x : A) × Memᴰ x l × P x) ⊎ ((x : A) → Memᴰ x l → P x → ⊥)
find P dec [] = inr (λ x m p. Memᴰ.not-nil m)
find {A} P dec (a ∷ l) = go (dec a) (find P dec l)
  where
    go : Dec (P a) → ((x : A) × Memᴰ x l × P x) ⊎ ((x : A) → Memᴰ x l → P x → ⊥) → ((x : A) × Memᴰ x (a ∷ l) × P x) ⊎ ((x : A) → Memᴰ x (a ∷ l) → P x → ⊥)
    go (yes p) r = inl (a, Memᴰ.head refl, p)
    go (no h) (inl r) = inl (r.0, Memᴰ.tail r.1, r.2)
    go (no h) (inr f) = inr (λ x m p. ⊎_elim (λ (e : x ≡ a). h (subst P e p)) (λ (d : Memᴰ x l). f x d p) (Memᴰ.cases_cons m))

-- w goes on to x
record Before (x w : Row) : Type 0 where
  goes_on : Last w → ⊥
  to : Follows w x

before? : (x w : Row) → Dec (Before x w)
before? x w = go (ℕ_discrete w.next w.place) (ℕ_discrete x.place w.next) (ℕ_discrete x.entry w.exit) (ℕ_discrete x.ticket w.ticket)
  where
    go : Dec (w.next ≡ w.place) → Dec (x.place ≡ w.next) → Dec (x.entry ≡ w.exit) → Dec (x.ticket ≡ w.ticket) → Dec (Before x w)
    go (yes a) b c d = no (λ h. h.goes_on a)
    go (no a) (no b) c d = no (λ h. b h.to.place)
    go (no a) (yes b) (no c) d = no (λ h. c h.to.entry)
    go (no a) (yes b) (yes c) (no d) = no (λ h. d h.to.ticket)
    go (no a) (yes b) (yes c) (yes d) = yes (record { goes_on = a; to = record { place = b; entry = c; ticket = d } })

-- rows, each the successor of the one before, up to a last row
abbrev Run : List Row → Type 0
Run [] = ⊥
Run (x ∷ []) = Last x
Run (x ∷ (y ∷ ys)) = (Last x → ⊥) × Follows x y × Run (y ∷ ys)

run_last : (c : List Row) → Run c → (e : Row) × Memᴰ e c × Last e
run_last [] R = absurd R
run_last (x ∷ []) R = (x, Memᴰ.head refl, R)
run_last (x ∷ (y ∷ ys)) R = let t = run_last (y ∷ ys) R.2 in (t.0, Memᴰ.tail t.1, t.2)

-- each row of a run but the first has the row before it there
run_before : (x : Row) (c : List Row) → Run (x ∷ c) → (s : Row) → Memᴰ s (x ∷ c) → (s ≡ x) ⊎ ((w : Row) × Memᴰ w (x ∷ c) × Before s w)
run_before x [] R s m = inl (⊎_elim (λ (e : s ≡ x). e) (λ (d : Memᴰ s []). absurd (Memᴰ.not-nil d)) (Memᴰ.cases_cons m))
run_before x (y ∷ ys) R s m = go (Memᴰ.cases_cons m) (λ d. run_before y ys R.2 s d)
  where
    on : (s ≡ y) ⊎ ((w : Row) × Memᴰ w (y ∷ ys) × Before s w) → (s ≡ x) ⊎ ((w : Row) × Memᴰ w (x ∷ (y ∷ ys)) × Before s w)
    on (inl e) = inr (x, Memᴰ.head refl, record { goes_on = R.0; to = subst (Follows x) (sym e) R.1 })
    on (inr t) = inr (t.0, Memᴰ.tail t.1, t.2)

    go : (s ≡ x) ⊎ Memᴰ s (y ∷ ys) → (Memᴰ s (y ∷ ys) → (s ≡ y) ⊎ ((w : Row) × Memᴰ w (y ∷ ys) × Before s w)) → (s ≡ x) ⊎ ((w : Row) × Memᴰ w (x ∷ (y ∷ ys)) × Before s w)
    go (inl e) ih = inl e
    go (inr d) ih = on (ih d)

-- ---- from the test to the plan

abbrev stay_of : Row → Stay
stay_of r = record { place = r.place; entry = r.entry; exit = r.exit }

module _ {Y : Yard} (rules : YardRules Y) {l : List Row} {k : ℕ} (T : Tested Y l k) where
  abbrev Mine : Row → Type 0
  Mine r = Memᴰ r l × (r.ticket ≡ k)

  ok : (r : Row) → Mine r → RowOk Y l r
  ok r m = T.each r m.0 m.1

  rises : (r : Row) → Mine r → r.entry < r.exit
  rises r m = omega (arith, (ok r m).lasts, rules.long r.place)

  -- going on from any row ends in a last row
  to_last : (n : ℕ) (r : Row) → day < r.entry + n → Mine r → (e : Row) × Mine e × Last e
  to_last zero r h m = absurd (omega (arith, rises r m, (ok r m).in_day))
  to_last (suc n) r h m =
      ⊎_elim (λ (e : r.next ≡ r.place). (r, m, e)) (λ (ne : r.next ≡ r.place → ⊥). on (λ s. to_last n s) ((ok r m).joined ne)) (eq_or_ne r.next r.place)
    where
      on : ((s : Row) → day < s.entry + n → Mine s → (e : Row) × Mine e × Last e) → Successor l r → (e : Row) × Mine e × Last e
      on ih s = ih s.row (omega (arith, rises r m, s.follows.entry)) (s.in_book, s.follows.ticket ∙ m.1)

  record Complete : Type 0 where
    first : Row
    rest : List Row
    run : Run (first ∷ rest)
    mine : (r : Row) → Memᴰ r (first ∷ rest) → Mine r
    none_before : (w : Row) → Memᴰ w l → Before first w → ⊥

  -- going back from a row as long as there is one before
  back : (n : ℕ) (x : Row) (rest : List Row) → x.entry < n → Run (x ∷ rest) → ((r : Row) → Memᴰ r (x ∷ rest) → Mine r) → Complete
  back zero x rest h R M = absurd (omega arith)
  back (suc n) x rest h R M = ⊎_elim (more (λ w c. back n w c)) (λ (f : (w : Row) → Memᴰ w l → Before x w → ⊥). record { first = x; rest = rest; run = R; mine = M; none_before = f }) (find (Before x) (before? x) l)
    where
      more : ((w : Row) (c : List Row) → w.entry < n → Run (w ∷ c) → ((r : Row) → Memᴰ r (w ∷ c) → Mine r) → Complete) → (w : Row) × Memᴰ w l × Before x w → Complete
      more ih t =
          let w : Mine t.0 = (t.1, sym t.2.to.ticket ∙ (M x (Memᴰ.head refl)).1) in
          ih t.0 (x ∷ rest) (omega (arith, rises t.0 w, t.2.to.entry)) (t.2.goes_on, t.2.to, R)
          (λ r m. ⊎_elim (λ (e : r ≡ t.0). subst Mine (sym e) w) (λ (d : Memᴰ r (x ∷ rest)). M r d) (Memᴰ.cases_cons m))

  complete : (r : Row) → Mine r → Complete
  complete r m = from (to_last (suc day) r (omega arith) m)
    where
      from : (e : Row) × Mine e × Last e → Complete
      from t = back (suc t.0.entry) t.0 [] (omega arith) t.2 (λ r m. ⊎_elim (λ (e : r ≡ t.0). subst Mine (sym e) t.1) (λ (d : Memᴰ r []). absurd (Memᴰ.not-nil d)) (Memᴰ.cases_cons m))

  module _ (C : Complete) where
    abbrev chain : List Row
    chain = C.first ∷ C.rest

    -- every row of the ticket is there
    covered : (n : ℕ) (r : Row) → day < r.entry + n → Mine r → Memᴰ r chain
    covered zero r h m = absurd (omega (arith, rises r m, (ok r m).in_day))
    covered (suc n) r h m =
        ⊎_elim (λ (e : r.next ≡ r.place). end e (run_last chain C.run)) (λ (ne : r.next ≡ r.place → ⊥). on (λ s. covered n s) ne ((ok r m).joined ne))
        (eq_or_ne r.next r.place)
      where
        end : Last r → (e : Row) × Memᴰ e chain × Last e → Memᴰ r chain
        end e t =
            let u = C.mine t.0 t.1 in
            subst (λ (x : Row). Memᴰ x chain) (sym (T.one_last r t.0 m.0 u.0 m.1 u.1 e t.2)) t.1

        inside : (ne : Last r → ⊥) (s : Row) → Follows r s → (s ≡ C.first) ⊎ ((w : Row) × Memᴰ w chain × Before s w) → Memᴰ r chain
        inside ne s f (inl e) = absurd (C.none_before r m.0 (record { goes_on = ne; to = subst (Follows r) e f }))
        inside ne s f (inr t) =
            let u = C.mine t.0 t.1 in
            subst (λ (x : Row). Memᴰ x chain)
            (sym (T.one_before r t.0 m.0 u.0 m.1 u.1 ne t.2.goes_on (sym f.place ∙ t.2.to.place) (sym f.entry ∙ t.2.to.entry)))
            t.1

        on : ((s : Row) → day < s.entry + n → Mine s → Memᴰ s chain) → (Last r → ⊥) → Successor l r → Memᴰ r chain
        on ih ne s =
            let d = ih s.row (omega (arith, rises r m, s.follows.entry)) (s.in_book, s.follows.ticket ∙ m.1) in
            inside ne s.row s.follows (run_before C.first C.rest C.run s.row d)

-- a fact for each index, from the first and the others
by_index : (P : ℕ → Type 0) (n : ℕ) → P 0 → ((i : ℕ) → i < n → P (suc i)) → (i : ℕ) → i < suc n → P i
by_index P n p f zero h = p
by_index P n p f (suc i) h = f i (omega arith)

by_last : (P : ℕ → Type 0) (n : ℕ) → ((i : ℕ) → suc i ≡ n → P (suc i)) → 0 < n → (i : ℕ) → suc i ≡ suc n → P i
by_last P n f h zero e = absurd (omega arith)
by_last P n f h (suc i) e = f i (omega arith)

plan_one : {Y : Yard} (x : Stay) → x.place < Y.places → x.exit ≡ x.entry + Y.dur x.place → x.exit ≤ day → Plan Y (x ∷ [])
plan_one {Y} x a b c = record {
  some = omega arith;
  on_map = by_index (λ i. (stay_at (x ∷ []) i).place < Y.places) 0 a (λ i h. absurd (omega arith));
  meets = λ i h. absurd (omega arith);
  goes = λ i h. absurd (omega arith);
  lasts = by_index (λ i. (stay_at (x ∷ []) i).entry + Y.dur (stay_at (x ∷ []) i).place ≤ (stay_at (x ∷ []) i).exit) 0 (omega arith) (λ i h. absurd (omega arith));
  last_exact = λ i e. by_index (λ i. (stay_at (x ∷ []) i).exit ≡ (stay_at (x ∷ []) i).entry + Y.dur (stay_at (x ∷ []) i).place) 0 b (λ i h. absurd (omega arith)) i (omega arith);
  last_exit = λ i e. by_index (λ i. (stay_at (x ∷ []) i).exit ≤ day) 0 c (λ i h. absurd (omega arith)) i (omega arith);
}

plan_cons : {Y : Yard} (x y : Stay) (ys : List Stay) → Plan Y (y ∷ ys) → x.place < Y.places → x.exit ≡ y.entry → Y.link x.place y.place ≡ true
    → x.entry + Y.dur x.place ≤ x.exit → Plan Y (x ∷ (y ∷ ys))
plan_cons {Y} x y ys P a b c d = record {
  some = omega arith;
  on_map = by_index (λ i. (stay_at (x ∷ (y ∷ ys)) i).place < Y.places) (length (y ∷ ys)) a P.on_map;
  meets = λ i h. by_index (λ i. (stay_at (x ∷ (y ∷ ys)) i).exit ≡ (stay_at (y ∷ ys) i).entry) (length ys) b (λ i h. P.meets i (omega arith)) i (omega arith);
  goes = λ i h. by_index (λ i. Y.link (stay_at (x ∷ (y ∷ ys)) i).place (stay_at (y ∷ ys) i).place ≡ true) (length ys) c (λ i h. P.goes i (omega arith)) i (omega arith);
  lasts = by_index (λ i. (stay_at (x ∷ (y ∷ ys)) i).entry + Y.dur (stay_at (x ∷ (y ∷ ys)) i).place ≤ (stay_at (x ∷ (y ∷ ys)) i).exit) (length (y ∷ ys)) d P.lasts;
  last_exact = by_last (λ i. (stay_at (x ∷ (y ∷ ys)) i).exit ≡ (stay_at (x ∷ (y ∷ ys)) i).entry + Y.dur (stay_at (x ∷ (y ∷ ys)) i).place) (length (y ∷ ys)) P.last_exact (omega arith);
  last_exit = by_last (λ i. (stay_at (x ∷ (y ∷ ys)) i).exit ≤ day) (length (y ∷ ys)) P.last_exit (omega arith);
}

-- a run of rows that pass the test is a plan
run_plan : {Y : Yard} {l : List Row} (c : List Row) → Run c → ((r : Row) → Memᴰ r c → RowOk Y l r) → Plan Y (map stay_of c)
run_plan [] R f = absurd R
run_plan (x ∷ []) R f = let o = f x (Memᴰ.head refl) in plan_one (stay_of x) o.on_map (o.exact R) o.in_day
run_plan {Y} (x ∷ (y ∷ ys)) R f =
    let o = f x (Memᴰ.head refl) in
    plan_cons (stay_of x) (stay_of y) (map stay_of ys) (run_plan (y ∷ ys) R.2 (λ r m. f r (Memᴰ.tail m))) o.on_map (sym R.1.entry)
    (subst (λ (q : ℕ). Y.link x.place q ≡ true) (sym R.1.place) (o.linked R.0)) o.lasts

-- and its rows are the plan's rows
run_rows_lem : (k : ℕ) (c : List Row) → Run c → ((r : Row) → Memᴰ r c → r.ticket ≡ k) → run_rows k (map stay_of c) ≡ c
run_rows_lem k [] R f = absurd R
run_rows_lem k (x ∷ []) R f =
    let h : stay_row k (stay_of x) x.place ≡ x = row_eq refl refl (sym (f x (Memᴰ.head refl))) refl (sym R) in
    ap (λ (r : Row). r ∷ []) h
run_rows_lem k (x ∷ (y ∷ ys)) R f =
    let h : stay_row k (stay_of x) y.place ≡ x = row_eq refl refl (sym (f x (Memᴰ.head refl))) refl R.1.place in
    ap₂ (λ (r : Row) (l : List Row). r ∷ l) h (run_rows_lem k (y ∷ ys) R.2 (λ r m. f r (Memᴰ.tail m)))

-- where the test is passed, the ticket's rows are a whole plan
pub tested_whole : {Y : Yard} → YardRules Y → {l : List Row} {k : ℕ} → Tested Y l k → (r : Row) → Memᴰ r l → r.ticket ≡ k → Whole Y l k
tested_whole {Y} rules {l} {k} T r m e = go (complete rules T r (m, e))
  where
    go : Complete rules T → Whole Y l k
    go C =
        let c : List Row = C.first ∷ C.rest in
        let e : run_rows k (map stay_of c) ≡ c = run_rows_lem k c C.run (λ s d. (C.mine s d).1) in
        record {
          plan = map stay_of c;
          is_plan = run_plan c C.run (λ s d. ok rules T s (C.mine s d));
          booked = λ s d. (C.mine s (subst (λ (x : List Row). Memᴰ s x) e d)).0;
          only = λ s d q. subst (λ (x : List Row). Memᴰ s x) (sym e) (covered rules T C (suc day) s (omega arith) (d, q));
        }

-- ---- from the plan to the test

plan_tail : {Y : Yard} {x y : Stay} {ys : List Stay} → Plan Y (x ∷ (y ∷ ys)) → Plan Y (y ∷ ys)
plan_tail P = record {
  some = omega arith;
  on_map = λ i h. P.on_map (suc i) (omega arith);
  meets = λ i h. P.meets (suc i) (omega arith);
  goes = λ i h. P.goes (suc i) (omega arith);
  lasts = λ i h. P.lasts (suc i) (omega arith);
  last_exact = λ i h. P.last_exact (suc i) (omega arith);
  last_exit = λ i h. P.last_exit (suc i) (omega arith);
}

-- a run's first row
run_first : (k : ℕ) (y : Stay) (ys : List Stay) → (z : ℕ) × Memᴰ (stay_row k y z) (run_rows k (y ∷ ys))
run_first k y [] = (y.place, Memᴰ.head refl)
run_first k y (z ∷ zs) = (z.place, Memᴰ.head refl)

widen : {Y : Yard} {a b : List Row} {r : Row} → ((s : Row) → Memᴰ s a → Memᴰ s b) → RowOk Y a r → RowOk Y b r
widen f o = record {
  on_map = o.on_map;
  in_day = o.in_day;
  lasts = o.lasts;
  exact = o.exact;
  linked = o.linked;
  joined = λ ne. let s = o.joined ne in record { row = s.row; in_book = f s.row s.in_book; follows = s.follows };
}

module _ {Y : Yard} (rules : YardRules Y) (k : ℕ) where
  apart : (p q : ℕ) → Y.link p q ≡ true → q ≡ p → ⊥
  apart p q h e = not_both (subst (λ (z : ℕ). Y.link p z ≡ true) e h) (rules.no_loop p)

  -- each row of a plan passes the test
  plan_ok : (plan : List Stay) → Plan Y plan → (r : Row) → Memᴰ r (run_rows k plan) → RowOk Y (run_rows k plan) r
  plan_ok [] P r m = absurd (Memᴰ.not-nil m)
  plan_ok (x ∷ []) P r m = ⊎_elim (λ (e : r ≡ stay_row k x x.place). subst (RowOk Y (run_rows k (x ∷ []))) (sym e) here) (λ (d : Memᴰ r []). absurd (Memᴰ.not-nil d)) (Memᴰ.cases_cons m)
    where
      here : RowOk Y (run_rows k (x ∷ [])) (stay_row k x x.place)
      here = record {
        on_map = P.on_map 0 (omega arith);
        in_day = P.last_exit 0 refl;
        lasts = P.lasts 0 (omega arith);
        exact = λ e. P.last_exact 0 refl;
        linked = λ ne. absurd (ne refl);
        joined = λ ne. absurd (ne refl);
      }
  plan_ok (x ∷ (y ∷ ys)) P r m =
      ⊎_elim (λ (e : r ≡ stay_row k x y.place). subst (RowOk Y (run_rows k (x ∷ (y ∷ ys)))) (sym e) (here (run_first k y ys) (plan_ok (y ∷ ys) (plan_tail P) _ (run_first k y ys).1)))
      (λ (d : Memᴰ r (run_rows k (y ∷ ys))). widen (λ s m. Memᴰ.tail m) (plan_ok (y ∷ ys) (plan_tail P) r d))
      (Memᴰ.cases_cons m)
    where
      here : (t : (z : ℕ) × Memᴰ (stay_row k y z) (run_rows k (y ∷ ys))) → RowOk Y (run_rows k (y ∷ ys)) (stay_row k y t.0) → RowOk Y (run_rows k (x ∷ (y ∷ ys))) (stay_row k x y.place)
      here t o = record {
        on_map = P.on_map 0 (omega arith);
        in_day = omega (arith, P.meets 0 (omega arith), o.lasts, o.in_day);
        lasts = P.lasts 0 (omega arith);
        exact = λ e. absurd (apart x.place y.place (P.goes 0 (omega arith)) e);
        linked = λ ne. P.goes 0 (omega arith);
        joined = λ ne. record { row = stay_row k y t.0; in_book = Memᴰ.tail t.1; follows = record { place = refl; entry = sym (P.meets 0 (omega arith)); ticket = refl } };
      }

  stay_rises : {plan : List Stay} → Plan Y plan → (i : ℕ) → i < length plan → (stay_at plan i).entry < (stay_at plan i).exit
  stay_rises {plan} P i h = omega (arith, P.lasts i h, rules.long (stay_at plan i).place)

  -- exits rise along a plan, so that no two rows of it have the same
  exit_after : (y : Stay) (ys : List Stay) → Plan Y (y ∷ ys) → (r : Row) → Memᴰ r (run_rows k (y ∷ ys)) → y.entry < r.exit
  exit_after y [] P r m = ⊎_elim (λ (e : r ≡ stay_row k y y.place). omega (arith, ap (λ (r : Row). r.exit) e, stay_rises P 0 (omega arith))) (λ (d : Memᴰ r []). absurd (Memᴰ.not-nil d)) (Memᴰ.cases_cons m)
  exit_after y (z ∷ zs) P r m =
      ⊎_elim (λ (e : r ≡ stay_row k y z.place). omega (arith, ap (λ (r : Row). r.exit) e, stay_rises P 0 (omega arith)))
      (λ (d : Memᴰ r (run_rows k (z ∷ zs))). omega (arith, P.meets 0 (omega arith), stay_rises P 0 (omega arith), exit_after z zs (plan_tail P) r d))
      (Memᴰ.cases_cons m)

  same_exit : (plan : List Stay) → Plan Y plan → (r s : Row) → Memᴰ r (run_rows k plan) → Memᴰ s (run_rows k plan) → r.exit ≡ s.exit → r ≡ s
  same_exit [] P r s m n q = absurd (Memᴰ.not-nil m)
  same_exit (x ∷ []) P r s (Memᴰ.head e) (Memᴰ.head f) q = e ∙ sym f
  same_exit (x ∷ []) P r s (Memᴰ.head e) (Memᴰ.tail n) q = absurd (Memᴰ.not-nil n)
  same_exit (x ∷ []) P r s (Memᴰ.tail m) n q = absurd (Memᴰ.not-nil m)
  same_exit (x ∷ (y ∷ ys)) P r s (Memᴰ.head e) (Memᴰ.head f) q = e ∙ sym f
  same_exit (x ∷ (y ∷ ys)) P r s (Memᴰ.head e) (Memᴰ.tail n) q = absurd (omega (arith, ap (λ (r : Row). r.exit) e, P.meets 0 (omega arith), exit_after y ys (plan_tail P) s n))
  same_exit (x ∷ (y ∷ ys)) P r s (Memᴰ.tail m) (Memᴰ.head f) q = absurd (omega (arith, ap (λ (r : Row). r.exit) f, P.meets 0 (omega arith), exit_after y ys (plan_tail P) r m))
  same_exit (x ∷ (y ∷ ys)) P r s (Memᴰ.tail m) (Memᴰ.tail n) q = same_exit (y ∷ ys) (plan_tail P) r s m n q

  same_last : (plan : List Stay) → Plan Y plan → (r s : Row) → Memᴰ r (run_rows k plan) → Memᴰ s (run_rows k plan) → Last r → Last s → r ≡ s
  same_last [] P r s m n a b = absurd (Memᴰ.not-nil m)
  same_last (x ∷ []) P r s (Memᴰ.head e) (Memᴰ.head f) a b = e ∙ sym f
  same_last (x ∷ []) P r s (Memᴰ.head e) (Memᴰ.tail n) a b = absurd (Memᴰ.not-nil n)
  same_last (x ∷ []) P r s (Memᴰ.tail m) n a b = absurd (Memᴰ.not-nil m)
  same_last (x ∷ (y ∷ ys)) P r s (Memᴰ.head e) n a b = absurd (apart x.place y.place (P.goes 0 (omega arith)) (subst Last e a))
  same_last (x ∷ (y ∷ ys)) P r s (Memᴰ.tail m) (Memᴰ.head f) a b = absurd (apart x.place y.place (P.goes 0 (omega arith)) (subst Last f b))
  same_last (x ∷ (y ∷ ys)) P r s (Memᴰ.tail m) (Memᴰ.tail n) a b = same_last (y ∷ ys) (plan_tail P) r s m n a b

-- where the ticket's rows are a whole plan, the test is passed
pub whole_tested : {Y : Yard} → YardRules Y → {l : List Row} {k : ℕ} → Whole Y l k → Tested Y l k
whole_tested {Y} rules {l} {k} W = record {
  each = λ r m e. widen W.booked (plan_ok rules k W.plan W.is_plan r (W.only r m e));
  one_before = λ r s m n d e a b p q. same_exit rules k W.plan W.is_plan r s (W.only r m d) (W.only s n e) q;
  one_last = λ r s m n d e a b. same_last rules k W.plan W.is_plan r s (W.only r m d) (W.only s n e) a b;
}

-- along a plan's rows exits rise strictly, so that no row stands twice: the same members without repeats are a rearrangement
pub run_rises : {Y : Yard} → YardRules Y → (k : ℕ) (plan : List Stay) → Plan Y plan → (d : Row) (i j : ℕ) → i < j → j < length (run_rows k plan)
    → (get_or (run_rows k plan) i d).exit < (get_or (run_rows k plan) j d).exit
run_rises rules k [] P d i j h m = absurd (omega arith)
run_rises rules k (x ∷ []) P d i j h m = absurd (omega arith)
run_rises rules k (x ∷ (y ∷ ys)) P d zero zero h m = absurd (omega arith)
run_rises rules k (x ∷ (y ∷ ys)) P d zero (suc j) h m = omega (arith, P.meets 0 (omega arith), exit_after rules k y ys (plan_tail P) (get_or (run_rows k (y ∷ ys)) j d) (member (run_rows k (y ∷ ys)) j (omega arith)))
  where
    member : (l : List Row) (i : ℕ) → i < length l → Memᴰ (get_or l i d) l
    member [] i h = absurd (omega arith)
    member (a ∷ l) zero h = Memᴰ.head refl
    member (a ∷ l) (suc i) h = Memᴰ.tail (member l i (omega arith))
run_rises rules k (x ∷ (y ∷ ys)) P d (suc i) zero h m = absurd (omega arith)
run_rises rules k (x ∷ (y ∷ ys)) P d (suc i) (suc j) h m = run_rises rules k (y ∷ ys) (plan_tail P) d i j (omega arith) (omega arith)
