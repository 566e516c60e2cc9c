-- The windows of one place, and of all places that a place's links lead to, offered the way through a window.
use Rattle.std.specs.Prelude.{ℕ, ◌+◌, ◌-◌, ◌≤◌, ◌<◌, min, max, ◌≡◌, ◌⊎◌, Option, Some, None, List, length, get_or, set, take, drop, true, false, ltb}
use Rattle.std.specs.Option.{unwrap_or}
use Rattle.std.specs.List.Sorted.{IsNonDecreasingBy, IsPartitionPoint}
use Rattle.std.proofs.Common.{ap, subst, ◌∙◌, inl, inr, ⊎_elim, arith, get_or-take, length-take-le, length-drop, length-set, get_or-set_same, get_or-set_other, ltb-true, ltb-false}
use Rattle.std.proofs.lemmas.List.{get_or-drop, get_or_default}
use Rattle.laws.specs.Order.{lt_or_ge, eq_or_ne}
use Rattle.laws.specs.Lists.{at}
use Rattle.rules.specs.declared.Row.{Row}
use Rattle.settle.specs.Blocks.{Blocks, Offered}
use Rattle.settle.specs.Search.{Through, In, run_more, run_rest}
use Rattle.search.specs.Entries.{FirstClear, IsEntry, entry_first, entry_late}

-- windows a .. b - 1 of one place, of duration d: long enough, in the day, and each after the one before
pub record Row1 (S E : List ℕ) (a b d : ℕ) : Type 0 where
  pub long : (v : ℕ) → a ≤ v → v < b → at S v + d ≤ at E v
  pub in_day : (v : ℕ) → a ≤ v → v < b → at E v ≤ 86400
  pub rise : (i j : ℕ) → a ≤ i → i < j → j < b → at E i < at S j

-- f gives the entry into each of them
pub record Entries (rows : List Row) (q p soonest leave d : ℕ) (S E : List ℕ) (a b : ℕ) (f : ℕ → ℕ) : Type 0 where
  pub is : (v : ℕ) → a ≤ v → v < b → IsEntry rows q p soonest leave d (at S v) (at E v) (f v)

-- labels are at most the mark and at most the open labels
pub record Labels (lab op bef : List ℕ) : Type 0 where
  pub low : (x : ℕ) → at lab x ≤ 86401
  pub above : (x : ℕ) → at lab x ≤ at op x
  pub len_lab : length lab ≡ 1280
  pub len_bef : length bef ≡ 1280

-- an offer keeps them so
pub offered_labels : {lab op bef lab' op' bef' : List ℕ} {v w t : ℕ} → v < 1280 → length op ≡ 1280 → Labels lab op bef → Offered lab op bef v w t lab' op' bef' → Labels lab' op' bef'
offered_labels {lab} {op} {bef} {lab'} {op'} {bef'} {v} {w} {t} h n L O =
    ⊎_elim (λ (c : t < at lab v). let k = O.took c in rw (k.0, k.1, k.2) (taken c)) (λ (c : at lab v ≤ t). let k = O.left c in rw (k.0, k.1, k.2) L) (lt_or_ge t (at lab v))
  where
    taken : t < at lab v → Labels (set lab v t) (set op v t) (set bef v (w + 1))
    taken c = record {
      low = λ x. ⊎_elim (λ (e : x ≡ v). rw e (omega (arith, get_or-set_same lab v t 0 (omega (arith, L.len_lab)), L.low v))) (λ (e : x ≡ v → ⊥). omega (arith, get_or-set_other lab v x t 0 e, L.low x)) (eq_or_ne x v);
      above = λ x.
          ⊎_elim (λ (e : x ≡ v). rw e (omega (arith, get_or-set_same lab v t 0 (omega (arith, L.len_lab)), get_or-set_same op v t 0 (omega arith))))
          (λ (e : x ≡ v → ⊥). omega (arith, get_or-set_other lab v x t 0 e, get_or-set_other op v x t 0 e, L.above x)) (eq_or_ne x v);
      len_lab = length-set lab v t ∙ L.len_lab;
      len_bef = length-set bef v (w + 1) ∙ L.len_bef;
    }

-- window v was tried, entered from lo to hi: whatever the entry is, it was offered, the mark where there is none
pub record Tried (rows : List Row) (q p lo hi v w : ℕ) (lab op bef lab' op' bef' : List ℕ) : Type 0 where
  pub offered : (t : Option ℕ) → FirstClear rows q p lo hi t → Offered lab op bef v w (unwrap_or t 86401) lab' op' bef'

-- of the windows of a place those below v are offered, whatever f gives their entries
pub record OfferedTo (rows : List Row) (q p soonest leave d : ℕ) (S E : List ℕ) (a b w : ℕ) (lab op bef : List ℕ) (v : ℕ) (lab' op' bef' : List ℕ) : Type 0 where
  pub through : (f : ℕ → ℕ) → Entries rows q p soonest leave d S E a b f → Through (In a v) f w lab op bef lab' op' bef'

module _ {rows : List Row} {q p soonest leave d : ℕ} {S E : List ℕ} {a b : ℕ} {w : ℕ} {lab op bef : List ℕ} (R : Row1 S E a b d) where
  pub offered_next : {v : ℕ} {lab' op' bef' lab'' op'' bef'' : List ℕ} → a ≤ v → v < b → v < length lab' → v < length op' → v < length bef'
      → OfferedTo rows q p soonest leave d S E a b w lab op bef v lab' op' bef'
      → Tried rows q p (max soonest (at S v)) (min leave (at E v - d)) v w lab' op' bef' lab'' op'' bef''
      → OfferedTo rows q p soonest leave d S E a b w lab op bef (v + 1) lab'' op'' bef''
  offered_next {v} av vb hl ho hb I T = record { through = λ f X. let e = entry_first (R.long v av vb) (X.is v av vb) (R.in_day v av vb) in run_more (I.through f X) av hl ho hb e.1 (T.offered e.0 e.2) }

  -- the rest start too late
  pub offered_rest : {v : ℕ} {lab' op' bef' : List ℕ} → a ≤ v → v < b → ((x : ℕ) → at lab x ≤ 86401) → leave < at S v
      → OfferedTo rows q p soonest leave d S E a b w lab op bef v lab' op' bef' → OfferedTo rows q p soonest leave d S E a b w lab op bef b lab' op' bef'
  offered_rest {v} av vb low h I = record {
    through = λ f X.
        run_rest (I.through f X) (omega arith)
        (λ x k m. let e = entry_late (R.long x (omega arith) m) (X.is x (omega arith) m) (after x k m) in omega (arith, low x));
  }
    where
      after : (x : ℕ) → v ≤ x → x < b → leave < at S x
      after x k m =
          ⊎_elim (λ (c : v < x). omega (arith, R.rise v x av c m, R.long v av vb)) (λ (c : x ≤ v). let e : v ≡ x = omega arith in subst (λ y. leave < at S y) e h) (lt_or_ge v x)

-- two runs of offers of one way, one after the other
module _ {M M' : ℕ → Type 0} {f : ℕ → ℕ} {u : ℕ} {lab op bef lab' op' bef' lab'' op'' bef'' : List ℕ}
    (R : Through M f u lab op bef lab' op' bef') (R' : Through M' f u lab' op' bef' lab'' op'' bef'')
    (dec : (v : ℕ) → M v ⊎ (M v → ⊥)) (dec' : (v : ℕ) → M' v ⊎ (M' v → ⊥)) where
  record Four (v : ℕ) : Type 0 where
    better : at lab'' v ≡ min (at lab v) (f v)
    took : f v < at lab v → (at op'' v ≡ f v) × (at bef'' v ≡ u + 1)
    left : at lab v ≤ f v → (at op'' v ≡ at op v) × (at bef'' v ≡ at bef v)

  in_both : (v : ℕ) → M v → M' v → Four v
  in_both v h k =
      let b = R.better v h in
      let b' = R'.better v k in
      let l = R'.left v k (omega arith) in
      record {
        better = omega arith;
        took = λ c. let t = R.took v h c in (l.0 ∙ t.0, l.1 ∙ t.1);
        left = λ c. let t = R.left v h c in (l.0 ∙ t.0, l.1 ∙ t.1);
      }

  in_first : (v : ℕ) → M v → (M' v → ⊥) → Four v
  in_first v h k =
      let b = R.better v h in
      let z = R'.rest v k in
      record {
        better = z.0 ∙ b;
        took = λ c. let t = R.took v h c in (z.1 ∙ t.0, z.2 ∙ t.1);
        left = λ c. let t = R.left v h c in (z.1 ∙ t.0, z.2 ∙ t.1);
      }

  in_second : (v : ℕ) → (M v → ⊥) → M' v → Four v
  in_second v h k =
      let z = R.rest v h in
      let b = R'.better v k in
      record {
        better = b ∙ ap (λ x. min x (f v)) z.0;
        took = λ c. R'.took v k (omega (arith, z.0));
        left = λ c. let t = R'.left v k (omega (arith, z.0)) in (t.0 ∙ z.1, t.1 ∙ z.2);
      }

  either : (v : ℕ) → (M v ⊎ M' v) → Four v
  either v (inl h) = ⊎_elim (λ k. in_both v h k) (λ k. in_first v h k) (dec' v)
  either v (inr k) = ⊎_elim (λ h. in_both v h k) (λ h. in_second v h k) (dec v)

  pub through_join : {M'' : ℕ → Type 0} → ((v : ℕ) → M'' v → M v ⊎ M' v) → ((v : ℕ) → (M'' v → ⊥) → (M v → ⊥) × (M' v → ⊥)) → Through M'' f u lab op bef lab'' op'' bef''
  through_join into out = record {
    len_lab = R'.len_lab ∙ R.len_lab;
    len_bef = R'.len_bef ∙ R.len_bef;
    better = λ v h. (either v (into v h)).better;
    took = λ v h. (either v (into v h)).took;
    left = λ v h. (either v (into v h)).left;
    rest = λ v h. let o = out v h in let z = R.rest v o.0 in let z' = R'.rest v o.1 in (z'.0 ∙ z.0, z'.1 ∙ z.1, z'.2 ∙ z.2);
  }

-- ---- the first window of a place that ends late enough

pub record OpenFrom (E : List ℕ) (a b x r : ℕ) : Type 0 where
  pub from : a ≤ r
  pub to : r ≤ b
  pub past : (i : ℕ) → a ≤ i → i < r → at E i < x
  pub rest : (i : ℕ) → r ≤ i → i < b → x ≤ at E i

module _ (E : List ℕ) {a b : ℕ} (h : a ≤ b) (l : b ≤ length E) where
  part_long : length (take (b - a) (drop a E)) ≡ b - a
  part_long = length-take-le (b - a) (drop a E) (omega (arith, length-drop a E))

  part_at : (i d : ℕ) → i < b - a → get_or (take (b - a) (drop a E)) i d ≡ at E (a + i)
  part_at i d k = get_or-take (b - a) (drop a E) i d k ∙ get_or-drop a E i d ∙ get_or_default E (a + i) d 0 (omega arith)

  -- ends rise in the part of them that is looked at
  pub part_rises : ((i j : ℕ) → a ≤ i → i ≤ j → j < b → at E i ≤ at E j) → IsNonDecreasingBy (λ e. e) (take (b - a) (drop a E))
  part_rises up i j d m k = omega (arith, part_long, part_at i d (omega (arith, part_long)), part_at j d (omega (arith, part_long)), up (a + i) (a + j) (omega arith) (omega arith) (omega (arith, part_long)))

  pub open_from : {x r : ℕ} → r ≤ length (take (b - a) (drop a E)) → IsPartitionPoint (λ e. ltb e x ≡ true) (λ e. ltb e x ≡ false) (take (b - a) (drop a E)) r → OpenFrom E a b x (a + r)
  open_from {x} {r} k I = record {
    from = omega arith;
    to = omega (arith, part_long);
    past = λ i m n. let j : ℕ = i - a in let e : a + j ≡ i = omega arith in omega (arith, ap (at E) e, part_at j 0 (omega (arith, part_long)), ltb-true _ x (I.0 j 0 (omega arith) (omega arith)));
    rest = λ i m n. let j : ℕ = i - a in let e : a + j ≡ i = omega arith in omega (arith, ap (at E) e, part_at j 0 (omega arith), ltb-false _ x (I.1 j 0 (omega arith) (omega (arith, part_long))));
  }

-- ends rise along a place's windows
pub ends_rise : {S E : List ℕ} {a b d : ℕ} → Row1 S E a b d → (i j : ℕ) → a ≤ i → i ≤ j → j < b → at E i ≤ at E j
ends_rise {S} {E} R i j h k m =
    ⊎_elim (λ (c : i < j). omega (arith, R.rise i j h c m, R.long j (omega arith) m)) (λ (c : j ≤ i). let e : i ≡ j = omega arith in omega (arith, ap (at E) e)) (lt_or_ge i j)

-- the loop over the windows of a place, at window v
pub record Relaxing (rows : List Row) (q p soonest leave d : ℕ) (S E : List ℕ) (a b w : ℕ) (lab₀ op₀ bef₀ lab op le bef : List ℕ) (v : ℕ) : Type 0 where
  pub from : a ≤ v
  pub to : v ≤ b
  pub offered : OfferedTo rows q p soonest leave d S E a b w lab₀ op₀ bef₀ v lab op bef
  pub labels : Labels lab op bef
  pub blocks : Blocks op le

-- ---- the window that a plan begins in

pub record Begins (S E : List ℕ) (a b s d r : ℕ) : Type 0 where
  pub within : r < 1280
  pub from : a ≤ r
  pub to : r < b
  pub begun : at S r ≤ s
  pub fits : s + d ≤ at E r

-- and there may be none
abbrev pub BeginsAt : List ℕ → List ℕ → ℕ → ℕ → ℕ → ℕ → Option ℕ → Type 0
BeginsAt S E a b s d None = (v : ℕ) → a ≤ v → v < b → at S v ≤ s → s + d ≤ at E v → ⊥
BeginsAt S E a b s d (Some r) = Begins S E a b s d r
