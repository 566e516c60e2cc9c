-- Label setting with predecessors, once and for all: nodes are numbers below n, and next w v e is the least entry into v of who entered w at e,
-- or top or more where there is none.
use Rattle.std.specs.Prelude.{ℕ, suc, ◌≤◌, ◌<◌, min, ◌≡◌, refl, ◌⊎◌, Bool, true, false}
use Rattle.std.proofs.Common.{sym, ap, subst, ◌∙◌, inl, inr, ⊎_elim, arith}
use Rattle.laws.specs.Order.{lt_or_ge, eq_or_ne, strong}
use Rattle.laws.specs.Tests.{true_or_false, not_both}

-- node w with entry e is no later than node w' with entry e': by entry, then by number
pub record Ahead (e w e' w' : ℕ) : Type 0 where
  pub le : e ≤ e'
  pub tie : e' ≤ e → w ≤ w'

-- u is the node to settle: open, and first of those open
pub record Pick (n : ℕ) (done : ℕ → Bool) (dist : ℕ → ℕ) (u : ℕ) : Type 0 where
  pub within : u < n
  pub undone : done u ≡ false
  pub least : (v : ℕ) → v < n → done v ≡ false → Ahead (dist u) u (dist v) v

module _ (n top src s : ℕ) (next : ℕ → ℕ → ℕ → ℕ) where
  -- node v can be entered at t
  pub data At : ℕ → ℕ → Type 0 where
    here : At src s
    on : {w e : ℕ} (v u : ℕ) → At w e → v < n → next w v e ≡ u → u < top → At v u

  pub record First (v t : ℕ) : Type 0 where
    pub at : At v t
    pub least : (u : ℕ) → At v u → t ≤ u

  -- of all nodes whose first entry yields entry t into v, b, first entered at e, is the first
  pub record Best (v b e t : ℕ) : Type 0 where
    pub within : b < n
    pub first : First b e
    pub yields : next b v e ≡ t
    pub soonest : (w x : ℕ) → w < n → First w x → next w v x ≡ t → Ahead e b x w

  -- the way to v at t by best predecessors
  pub data Trace : ℕ → ℕ → Type 0 where
    begins : Trace src s
    goes : {w e : ℕ} (v t : ℕ) → Trace w e → Best v w e t → Trace v t

  -- of the settled nodes that yield v's entry, b is the first
  pub record From (done : ℕ → Bool) (dist : ℕ → ℕ) (v b : ℕ) : Type 0 where
    pub within : b < n
    pub settled : done b ≡ true
    pub yields : next b v (dist b) ≡ dist v
    pub first : (w : ℕ) → w < n → done w ≡ true → next w v (dist w) ≡ dist v → Ahead (dist b) b (dist w) w

  -- what holds before each turn: `done` marks the settled nodes, `dist` has their first entries and the others' best so far, `bef` the predecessors
  pub record Inv (done : ℕ → Bool) (dist bef : ℕ → ℕ) : Type 0 where
    pub first : (w : ℕ) → w < n → done w ≡ true → First w (dist w)
    pub low : (v w : ℕ) → v < n → w < n → done v ≡ false → done w ≡ true → dist v ≤ next w v (dist w)
    pub start : dist src ≡ s
    pub real : (v : ℕ) → v < n → dist v < top → At v (dist v)
    pub order : (w v : ℕ) → w < n → v < n → done w ≡ true → done v ≡ false → Ahead (dist w) w (dist v) v
    pub from : (v : ℕ) → v < n → dist v < top → (v ≡ src → ⊥) → From done dist v (bef v)

  -- what is to be had of the nodes S, which hold each one's predecessor
  pub record Backs (S : ℕ → Type 0) (dist bef : ℕ → ℕ) : Type 0 where
    pub start : dist src ≡ s
    pub first : (v : ℕ) → v < n → S v → First v (dist v)
    pub best : (v : ℕ) → v < n → S v → (v ≡ src → ⊥) → Best v (bef v) (dist (bef v)) (dist v)
    pub inside : (v : ℕ) → v < n → S v → (v ≡ src → ⊥) → S (bef v)
    pub falls : (v : ℕ) → v < n → S v → (v ≡ src → ⊥) → dist (bef v) < dist v

  -- the first of the goals
  pub record Sought (goal : ℕ → Bool) (u t : ℕ) : Type 0 where
    pub within : u < n
    pub first : First u t
    pub wanted : goal u ≡ true
    pub least : (v x : ℕ) → goal v ≡ true → At v x → Ahead t u x v

  -- the labels tell all entries up to b: a label of at most b is its node's first entry, and a node of a later label is entered only after b
  pub record Known (dist : ℕ → ℕ) (b : ℕ) : Type 0 where
    pub first : (v : ℕ) → v < n → dist v ≤ b → First v (dist v)
    pub after : (v t : ℕ) → v < n → b < dist v → At v t → b < t

  pub at_lt : s < top → {v t : ℕ} → At v t → t < top
  at_lt s-in here = s-in
  at_lt s-in (on v x a h e k) = k

  pub first_same : {v t u : ℕ} → First v t → First v u → t ≡ u
  first_same {v} {t} {u} a b = omega (arith, a.least u b.at, b.least t a.at)

  -- at most one node is the best predecessor
  pub best_same : {v b e c x t : ℕ} → Best v b e t → Best v c x t → b ≡ c
  best_same {v} {b} {e} {c} {x} {t} P Q =
      let f = P.soonest c x Q.within Q.first Q.yields in
      let g = Q.soonest b e P.within P.first P.yields in
      omega (arith, f.le, g.le, f.tie g.le, g.tie f.le)

  -- predecessors make ways
  pub trace : {S : ℕ → Type 0} {dist bef : ℕ → ℕ} → Backs S dist bef → (v : ℕ) → v < n → S v → Trace v (dist v)
  trace {S} {dist} {bef} B v k m = strong (λ x. (v : ℕ) → v < n → S v → dist v ≡ x → Trace v (dist v)) step (dist v) v k m refl
    where
      step : (x : ℕ) → ((y : ℕ) → y < x → (v : ℕ) → v < n → S v → dist v ≡ y → Trace v (dist v)) → (v : ℕ) → v < n → S v → dist v ≡ x → Trace v (dist v)
      step x ih v k m e =
          ⊎_elim (λ q. rw q (rw B.start begins))
          (λ q. goes v (dist v) (ih (dist (bef v)) (omega (arith, B.falls v k m q)) (bef v) (B.best v k m q).within (B.inside v k m q) refl) (B.best v k m q))
          (eq_or_ne v src)

  -- the nodes met from r on by going back
  pub data OnWay (bef : ℕ → ℕ) (r : ℕ) : ℕ → Type 0 where
    self : OnWay bef r r
    back : {v : ℕ} → OnWay bef r v → (v ≡ src → ⊥) → OnWay bef r (bef v)

  -- what is to be had of them
  pub way : {S : ℕ → Type 0} {dist bef : ℕ → ℕ} → Backs S dist bef → (r : ℕ) → r < n → S r → Backs (OnWay bef r) dist bef
  way {S} {dist} {bef} B r k m = record {
    start = B.start;
    first = λ v h o. B.first v h (in_s o).1;
    best = λ v h o ne. B.best v h (in_s o).1 ne;
    inside = λ v h o ne. back o ne;
    falls = λ v h o ne. B.falls v h (in_s o).1 ne;
  }
    where
      in_s : {v : ℕ} → OnWay bef r v → (v < n) × S v
      in_s self = (k, m)
      in_s (back {v} o ne) = let p = in_s o in ((B.best v p.0 p.1 ne).within, B.inside v p.0 p.1 ne)

  module _
      (src_in : src < n)
      (s-in : s < top)
      (mono : (w v e e' : ℕ) → w < n → e ≤ e' → next w v e ≤ next w v e')
      (later : (w v e : ℕ) → w < n → e < top → e < next w v e)
    where
      at_in : {v t : ℕ} → At v t → v < n
      at_in here = src_in
      at_in (on v x a h e k) = h

      pub at_ge : {v t : ℕ} → At v t → s ≤ t
      at_ge here = omega arith
      at_ge (on {w} {e} v x a h q k) = omega (arith, at_ge a, later w v e (at_in a) (at_lt s-in a))

      module _ {done : ℕ → Bool} {dist bef : ℕ → ℕ} (I : Inv done dist bef) where
        -- where no open node is entered before b ..
        module _ (b : ℕ) (all : (v : ℕ) → v < n → done v ≡ false → b ≤ dist v) where
          -- .. what is entered at all is settled or entered no sooner than b
          pub ahead : {v t : ℕ} → At v t → (done v ≡ true) ⊎ (b ≤ t)
          ahead here = ⊎_elim inl (λ o. inr (omega (arith, all src src_in o, I.start))) (true_or_false (done src))
          ahead (on {w} {e} v x a h q k) = ⊎_elim inl (λ o. inr (still o (ahead a))) (true_or_false (done v))
            where
              still : done v ≡ false → (done w ≡ true) ⊎ (b ≤ e) → b ≤ x
              still o (inl d) = omega (arith, all v h o, I.low v w h (at_in a) o d, mono w v (dist w) e (at_in a) ((I.first w (at_in a) d).least e a))
              still o (inr l) = omega (arith, later w v e (at_in a) (at_lt s-in a))

          -- and an open node is entered no sooner than its best so far, or after b
          pub nearer : {v t : ℕ} → At v t → done v ≡ false → (dist v ≤ t) ⊎ (b < t)
          nearer here o = inl (omega (arith, I.start))
          nearer (on {w} {e} v x a h q k) o =
              ⊎_elim (λ d. inl (omega (arith, I.low v w h (at_in a) o d, mono w v (dist w) e (at_in a) ((I.first w (at_in a) d).least e a))))
              (λ (l : b ≤ e). inr (omega (arith, later w v e (at_in a) (at_lt s-in a))))
              (ahead a)

          best_of : (v : ℕ) → v < n → First v (dist v) → dist v ≤ b → (v ≡ src → ⊥) → Best v (bef v) (dist (bef v)) (dist v)
          best_of v k f h ne = record {
            within = F.within;
            first = I.first (bef v) F.within F.settled;
            yields = F.yields;
            soonest = λ w x kw fw e. ⊎_elim (λ d. old w x kw fw e d) (λ (l : b ≤ x). absurd (omega (arith, later w v x kw (at_lt s-in fw.at)))) (ahead fw.at);
          }
            where
              F : From done dist v (bef v)
              F = I.from v k (at_lt s-in f.at) ne

              old : (w x : ℕ) → w < n → First w x → next w v x ≡ dist v → done w ≡ true → Ahead (dist (bef v)) (bef v) x w
              old w x kw fw e d =
                  let q : dist w ≡ x = first_same (I.first w kw d) fw in
                  subst (λ y. Ahead (dist (bef v)) (bef v) y w) q (F.first w kw d (ap (next w v) q ∙ e))

          falls_of : (v : ℕ) → v < n → First v (dist v) → (v ≡ src → ⊥) → dist (bef v) < dist v
          falls_of v k f ne =
              let F = I.from v k (at_lt s-in f.at) ne in
              omega (arith, F.yields, later (bef v) v (dist (bef v)) F.within (at_lt s-in (I.first (bef v) F.within F.settled).at))

        -- ---- the end where no open node has an entry
        module _ (all : (v : ℕ) → v < n → done v ≡ false → top ≤ dist v) where
          pub reached : {v t : ℕ} → At v t → done v ≡ true
          reached a = ⊎_elim (λ d. d) (λ l. absurd (omega (arith, at_lt s-in a))) (ahead top all a)

          pub backs_end : Backs (λ v. done v ≡ true) dist bef
          backs_end = record {
            start = I.start;
            first = I.first;
            best = λ v k d ne. best_of top all v k (I.first v k d) (omega (arith, at_lt s-in (I.first v k d).at)) ne;
            inside = λ v k d ne. (I.from v k (at_lt s-in (I.first v k d).at) ne).settled;
            falls = λ v k d ne. falls_of top all v k (I.first v k d) ne;
          }

          -- every node: settled with its first entry below top, or never entered and its label top or more
          pub end_never : (v t : ℕ) → v < n → top ≤ dist v → At v t → ⊥
          end_never v t k h a = omega (arith, at_lt s-in (I.first v k (reached a)).at)

          pub end_done : (v : ℕ) → v < n → dist v < top → done v ≡ true
          end_done v k h = reached (I.real v k h)

          -- the labels tell all entries
          pub known_end : (b : ℕ) → suc b ≡ top → Known dist b
          known_end b e = record {
            first = λ v k l. I.first v k (end_done v k (omega arith));
            after = λ v t k l a. absurd (end_never v t k (omega arith) a);
          }

          pub not_sought : {goal : ℕ → Bool} → ((w : ℕ) → w < n → done w ≡ true → goal w ≡ false) → (v t : ℕ) → goal v ≡ true → At v t → ⊥
          not_sought g v t w a = not_both w (g v (at_in a) (reached a))

        -- ---- the turn
        module _ {u : ℕ} (P : Pick n done dist u) (h : dist u < top) where
          low_u : (v : ℕ) → v < n → done v ≡ false → dist u ≤ dist v
          low_u v k o = (P.least v k o).le

          pub settle : First u (dist u)
          settle = record { at = I.real u P.within h; least = λ t a. ⊎_elim (λ d. absurd (not_both d P.undone)) (λ l. l) (ahead (dist u) low_u a) }

          settled_le : (v : ℕ) → v < n → (done v ≡ true) ⊎ (v ≡ u) → dist v ≤ dist u
          settled_le v k m = ⊎_elim (λ d. (I.order v u k P.within d P.undone).le) (λ e. omega (arith, ap dist e)) m

          settled_first : (v : ℕ) → v < n → (done v ≡ true) ⊎ (v ≡ u) → First v (dist v)
          settled_first v k m = ⊎_elim (λ d. I.first v k d) (λ e. rw e settle) m

          -- the search may stop at u: what is settled, and u, have their first entries and best predecessors
          pub backs_stop : Backs (λ v. (done v ≡ true) ⊎ (v ≡ u)) dist bef
          backs_stop = record {
            start = I.start;
            first = settled_first;
            best = λ v k m ne. best_of (dist u) low_u v k (settled_first v k m) (settled_le v k m) ne;
            inside = λ v k m ne. inl (I.from v k (at_lt s-in (settled_first v k m).at) ne).settled;
            falls = λ v k m ne. falls_of (dist u) low_u v k (settled_first v k m) ne;
          }

          -- and where u is the first goal picked, it is the goal of least entry, of those the first
          pub stop : {goal : ℕ → Bool} → ((w : ℕ) → w < n → done w ≡ true → goal w ≡ false) → goal u ≡ true → Sought goal u (dist u)
          stop {goal} g m = record {
            within = P.within;
            first = settle;
            wanted = m;
            least = λ v x w a. by v x w a (true_or_false (done v));
          }
            where
              by : (v x : ℕ) → goal v ≡ true → At v x → (done v ≡ true) ⊎ (done v ≡ false) → Ahead (dist u) u x v
              by v x w a (inl d) = absurd (not_both w (g v (at_in a) d))
              by v x w a (inr o) =
                  let A = P.least v (at_in a) o in
                  ⊎_elim (λ (l : dist v ≤ x). record { le = omega (arith, A.le); tie = λ c. A.tie (omega arith) })
                  (λ (l : dist u < x). record { le = omega arith; tie = λ c. absurd (omega arith) })
                  (nearer (dist u) low_u a o)

          -- the labels tell all entries up to u's: also those of open nodes that are entered at the same second
          pub known_stop : Known dist (dist u)
          known_stop = record {
            first = λ v k l. ⊎_elim (λ d. I.first v k d) (λ o. tied v k l o) (true_or_false (done v));
            after = λ v t k l a. ⊎_elim (λ d. absurd (omega (arith, settled_le v k (inl d)))) (λ o. past v t l a o) (true_or_false (done v));
          }
            where
              tied : (v : ℕ) → v < n → dist v ≤ dist u → done v ≡ false → First v (dist v)
              tied v k l o = record {
                at = I.real v k (omega arith);
                least = λ t a. ⊎_elim (λ d. absurd (not_both d o)) (λ (z : dist u ≤ t). omega arith) (ahead (dist u) low_u a);
              }

              past : (v t : ℕ) → dist u < dist v → At v t → done v ≡ false → dist u < t
              past v t l a o = ⊎_elim (λ (z : dist v ≤ t). omega arith) (λ (z : dist u < t). z) (nearer (dist u) low_u a o)

          -- u is settled, and each node takes the better of what it has and the way through u, and u as predecessor where that is strictly better
          pub turn : {done' : ℕ → Bool} {dist' bef' : ℕ → ℕ}
              → done' u ≡ true
              → ((v : ℕ) → (v ≡ u → ⊥) → done' v ≡ done v)
              → ((v : ℕ) → v < n → dist' v ≡ min (dist v) (next u v (dist u)))
              → ((v : ℕ) → v < n → next u v (dist u) < dist v → bef' v ≡ u)
              → ((v : ℕ) → v < n → dist v ≤ next u v (dist u) → bef' v ≡ bef v)
              → Inv done' dist' bef'
          turn {done'} {dist'} {bef'} du dv better took left = record {
            first = λ w k d. rw (kept w k d) (settled_first w k (old w d));
            low = λ v w hv hw o d. rw (kept w hw d) (⊎_elim (λ e. rw e (omega (arith, better v hv))) (λ ne. omega (arith, better v hv, I.low v w hv hw (was_open v o) (sym (dv w ne) ∙ d))) (eq_or_ne w u));
            start = omega (arith, better src src_in, I.start, at_ge settle.at, lat src);
            real = real';
            order = order';
            from = from';
          }
            where
              lat : (v : ℕ) → dist u < next u v (dist u)
              lat v = later u v (dist u) P.within h

              was_open : (v : ℕ) → done' v ≡ false → done v ≡ false
              was_open v o = ⊎_elim (λ e. absurd (not_both du (subst (λ x. done' x ≡ false) e o))) (λ ne. sym (dv v ne) ∙ o) (eq_or_ne v u)

              old : (w : ℕ) → done' w ≡ true → (done w ≡ true) ⊎ (w ≡ u)
              old w d = ⊎_elim (λ e. inr e) (λ ne. inl (sym (dv w ne) ∙ d)) (eq_or_ne w u)

              kept : (w : ℕ) → w < n → done' w ≡ true → dist' w ≡ dist w
              kept w k d = omega (arith, better w k, settled_le w k (old w d), lat w)

              real' : (v : ℕ) → v < n → dist' v < top → At v (dist' v)
              real' v k b =
                  ⊎_elim (λ (c : next u v (dist u) < dist v). on v (dist' v) settle.at k (omega (arith, better v k)) b)
                  (λ (c : dist v ≤ next u v (dist u)). let e : dist v ≡ dist' v = omega (arith, better v k) in subst (At v) e (I.real v k (omega arith)))
                  (lt_or_ge (next u v (dist u)) (dist v))

              -- settled before u, or u itself: no later than u
              upto_u : (w : ℕ) → w < n → (done w ≡ true) ⊎ (w ≡ u) → Ahead (dist w) w (dist u) u
              upto_u w k m = ⊎_elim (λ d. I.order w u k P.within d P.undone) (λ e. record { le = omega (arith, ap dist e); tie = λ c. omega (arith, e) }) m

              before_open : (w v : ℕ) → w < n → v < n → (done w ≡ true) ⊎ (w ≡ u) → done v ≡ false → Ahead (dist w) w (dist v) v
              before_open w v kw kv m o = ⊎_elim (λ d. I.order w v kw kv d o) (λ e. rw e (P.least v kv o)) m

              order' : (w v : ℕ) → w < n → v < n → done' w ≡ true → done' v ≡ false → Ahead (dist' w) w (dist' v) v
              order' w v kw kv d o =
                  let A = before_open w v kw kv (old w d) (was_open v o) in
                  let B = upto_u w kw (old w d) in
                  record {
                    le = omega (arith, kept w kw d, better v kv, A.le, B.le, lat v);
                    tie = λ c. A.tie (omega (arith, kept w kw d, better v kv, B.le, lat v));
                  }

              from' : (v : ℕ) → v < n → dist' v < top → (v ≡ src → ⊥) → From done' dist' v (bef' v)
              from' v k b ne = ⊎_elim (λ c. new c) (λ c. same c) (lt_or_ge (next u v (dist u)) (dist v))
                where
                  ku : dist' u ≡ dist u
                  ku = kept u P.within du

                  new : next u v (dist u) < dist v → From done' dist' v (bef' v)
                  new c = rw (took v k c) (record {
                    within = P.within;
                    settled = du;
                    yields = rw ku (omega (arith, better v k));
                    first = λ w kw d e. ⊎_elim (λ dw. absurd (none w kw dw (subst (λ x. next w v x ≡ dist' v) (kept w kw d) e))) (λ q. rw q (record { le = omega arith; tie = λ _. omega arith })) (old w d);
                  })
                    where
                      v_open : done v ≡ false
                      v_open = ⊎_elim (λ d. absurd (omega (arith, settled_le v k (inl d), lat v))) (λ o. o) (true_or_false (done v))

                      none : (w : ℕ) → w < n → done w ≡ true → next w v (dist w) ≡ dist' v → ⊥
                      none w kw dw e = omega (arith, I.low v w k kw v_open dw, better v k)

                  same : dist v ≤ next u v (dist u) → From done' dist' v (bef' v)
                  same c = rw (left v k c) (record {
                    within = F.within;
                    settled = done_b;
                    yields = ap (next (bef v) v) kb ∙ (F.yields ∙ sym kv);
                    first = λ w kw d e. subst (λ x. Ahead (dist' (bef v)) (bef v) x w) (sym (kept w kw d)) (subst (λ x. Ahead x (bef v) (dist w) w) (sym kb) (by w kw d (ap (next w v) (sym (kept w kw d)) ∙ (e ∙ kv)) (old w d)));
                  })
                    where
                      kv : dist' v ≡ dist v
                      kv = omega (arith, better v k)

                      F : From done dist v (bef v)
                      F = I.from v k (omega (arith, kv)) ne

                      done_b : done' (bef v) ≡ true
                      done_b = dv (bef v) (λ e. not_both F.settled (rw e P.undone)) ∙ F.settled

                      kb : dist' (bef v) ≡ dist (bef v)
                      kb = kept (bef v) F.within done_b

                      by : (w : ℕ) → w < n → done' w ≡ true → next w v (dist w) ≡ dist v → (done w ≡ true) ⊎ (w ≡ u) → Ahead (dist (bef v)) (bef v) (dist w) w
                      by w kw d e (inl dw) = F.first w kw dw e
                      by w kw d e (inr q) = rw q (I.order (bef v) u F.within P.within F.settled P.undone)

  -- before the first turn: nothing is settled, and the source alone has an entry
  pub begin : {done : ℕ → Bool} {dist bef : ℕ → ℕ} → ((v : ℕ) → v < n → done v ≡ false) → src < n → dist src ≡ s → ((v : ℕ) → v < n → (v ≡ src → ⊥) → dist v ≡ top) → Inv done dist bef
  begin {done} {dist} {bef} o src_in e far = record {
    first = λ w k d. absurd (not_both d (o w k));
    low = λ v w hv hw a d. absurd (not_both d (o w hw));
    start = e;
    real = λ v k h. ⊎_elim (λ q. rw q (rw e here)) (λ ne. absurd (omega (arith, far v k ne))) (eq_or_ne v src);
    order = λ w v kw kv d. absurd (not_both d (o w kw));
    from = λ v k h ne. absurd (omega (arith, far v k ne));
  }
