-- The search over arrays, for any next function nx and any goal: what a turn does, the invariant, the way back.
use Rattle.std.specs.Prelude.{ℕ, zero, suc, ◌+◌, ◌-◌, ◌*◌, ◌/◌, ◌≤◌, ◌<◌, min, ◌≡◌, refl, ◌⊎◌, Option, Some, None, Bool, true, false, List, length, get_or, set, replicate, ltb}
use Rattle.std.proofs.Common.{sym, ap, subst, ◌∙◌, inl, inr, ⊎_elim, arith, length-set, get_or-set_same, get_or-set_other, ltb-true, ltb-false, lt-ltb, le-ltb}
use Rattle.std.proofs.lemmas.List.{length-replicate, get_or-replicate}
use Rattle.std.proofs.Math.ListN.{get_or-eq_default}
use Rattle.laws.specs.Order.{lt_or_ge, eq_or_ne, strong}
use Rattle.laws.specs.Tests.{true_or_false, not_both}
use Rattle.label.specs.Label.{Pick, At, Inv, Backs, OnWay, Sought, Known, begin, turn, stop, backs_stop, known_stop, known_end, not_sought, way, at_ge, at_lt}
use Rattle.settle.specs.Blocks.{low, Blocks, PickedAt, Picked, Offered, low_ge, low_top, blocks_lower}

abbrev pub top : ℕ
top = 86401

abbrev pub dist_of : List ℕ → ℕ → ℕ
dist_of l v = get_or l v 0

-- predecessors are kept with one added
abbrev pub bef_of : List ℕ → ℕ → ℕ
bef_of l v = get_or l v 0 - 1

-- settled: the open label is the mark, the label is not
abbrev pub done_of : List ℕ → List ℕ → ℕ → Bool
done_of lab op v = ltb (get_or lab v 0) (get_or op v 0)

-- the way through u was offered to the nodes M, entry f v to node v
pub record Through (M : ℕ → Type 0) (f : ℕ → ℕ) (u : ℕ) (lab op bef lab' op' bef' : List ℕ) : Type 0 where
  pub len_lab : length lab' ≡ length lab
  pub len_bef : length bef' ≡ length bef
  pub better : (v : ℕ) → M v → get_or lab' v 0 ≡ min (get_or lab v 0) (f v)
  pub took : (v : ℕ) → M v → f v < get_or lab v 0 → (get_or op' v 0 ≡ f v) × (get_or bef' v 0 ≡ u + 1)
  pub left : (v : ℕ) → M v → get_or lab v 0 ≤ f v → (get_or op' v 0 ≡ get_or op v 0) × (get_or bef' v 0 ≡ get_or bef v 0)
  pub rest : (v : ℕ) → (M v → ⊥) → (get_or lab' v 0 ≡ get_or lab v 0) × (get_or op' v 0 ≡ get_or op v 0) × (get_or bef' v 0 ≡ get_or bef v 0)

-- going back from v comes to an end, each time to a lower label; 0 stands where the way begins
pub data Rooted (lab bef : List ℕ) : ℕ → Type 0 where
  root : (v : ℕ) → v < 1280 → get_or bef v 0 ≡ 0 → Rooted lab bef v
  link : (v : ℕ) → v < 1280 → 0 < get_or bef v 0 → get_or lab (bef_of bef v) 0 < get_or lab v 0 → Rooted lab bef (bef_of bef v) → Rooted lab bef v

-- the way back from v has k nodes
pub data Long (bef : List ℕ) : ℕ → ℕ → Type 0 where
  one : (v : ℕ) → get_or bef v 0 ≡ 0 → Long bef v 1
  more : (v k : ℕ) → 0 < get_or bef v 0 → Long bef (bef_of bef v) k → Long bef v (k + 1)

-- the search has found the first goal, r, and its way back; labels are entries up to r's, where it stopped
pub record Reached (n : ℕ) (nx : ℕ → ℕ → ℕ → ℕ) (goal : ℕ → Bool) (src s : ℕ) (lab bef : List ℕ) (r : ℕ) : Type 0 where
  pub within : r < 1280
  pub sought : Sought n top src s nx goal r (dist_of lab r)
  pub backs : Backs n top src s nx (OnWay n top src s nx (bef_of bef) r) (dist_of lab) (bef_of bef)
  pub rooted : Rooted lab bef r
  pub begun : get_or bef src 0 ≡ 0
  pub tied : (v : ℕ) → v < n → get_or lab v 0 < top → (v ≡ src → ⊥) → 0 < get_or bef v 0
  pub known : Known n top src s nx (dist_of lab) (dist_of lab r)
  pub marked : (v : ℕ) → dist_of lab v ≤ top

-- the search has found that no goal is reached; labels are the entries of the whole day
pub record Unreached (n : ℕ) (nx : ℕ → ℕ → ℕ → ℕ) (goal : ℕ → Bool) (src s : ℕ) (lab : List ℕ) : Type 0 where
  pub none : (v t : ℕ) → goal v ≡ true → At n top src s nx v t → ⊥
  pub known_all : Known n top src s nx (dist_of lab) 86400
  pub marked : (v : ℕ) → dist_of lab v ≤ top

-- what a search answers: the first goal, or that there is none
abbrev pub Answer : (n : ℕ) (nx : ℕ → ℕ → ℕ → ℕ) (goal : ℕ → Bool) (src s : ℕ) (lab bef : List ℕ) → Option ℕ → Type 0
Answer n nx goal src s lab bef None = Unreached n nx goal src s lab
Answer n nx goal src s lab bef (Some r) = Reached n nx goal src s lab bef r

pub record Going (n : ℕ) (nx : ℕ → ℕ → ℕ → ℕ) (goal : ℕ → Bool) (src s : ℕ) (lab op le bef : List ℕ) : Type 0 where
  pub inv : Inv n top src s nx (done_of lab op) (dist_of lab) (bef_of bef)
  pub blocks : Blocks op le
  pub above : (v : ℕ) → get_or lab v 0 ≤ get_or op v 0
  pub shut : (v : ℕ) → v < n → get_or lab v 0 < get_or op v 0 → get_or op v 0 ≡ top
  pub below : (v : ℕ) → get_or lab v 0 ≤ top
  pub goals : (w : ℕ) → w < n → done_of lab op w ≡ true → goal w ≡ false
  pub begun : get_or bef src 0 ≡ 0
  pub tied : (v : ℕ) → v < n → get_or lab v 0 < top → (v ≡ src → ⊥) → 0 < get_or bef v 0
  pub beyond : (v : ℕ) → n ≤ v → v < 1280 → get_or op v 0 ≡ top
  pub len_lab : length lab ≡ 1280
  pub len_bef : length bef ≡ 1280

-- ---- a turn's offers

module _ {f : ℕ → ℕ} {u : ℕ} {lab op bef : List ℕ} where
  pub through_none : {M : ℕ → Type 0} → ((v : ℕ) → M v → ⊥) → Through M f u lab op bef lab op bef
  through_none nix = record {
    len_lab = refl;
    len_bef = refl;
    better = λ v h. absurd (nix v h);
    took = λ v h. absurd (nix v h);
    left = λ v h. absurd (nix v h);
    rest = λ v h. (refl, refl, refl);
  }

  -- nodes to which the offer would make no difference count as offered
  pub through_skip : {M M' : ℕ → Type 0} {lab' op' bef' : List ℕ} → Through M f u lab op bef lab' op' bef'
      → ((v : ℕ) → M' v → M v ⊎ ((M v → ⊥) × (get_or lab v 0 ≤ f v))) → ((v : ℕ) → (M' v → ⊥) → M v → ⊥) → Through M' f u lab op bef lab' op' bef'
  through_skip {M} {M'} {lab'} {op'} {bef'} R into out = record {
    len_lab = R.len_lab;
    len_bef = R.len_bef;
    better = λ v h. ⊎_elim (λ m. R.better v m) (λ z. let q = (R.rest v z.0).0 in let l = z.1 in omega arith) (into v h);
    took = λ v h k. ⊎_elim (λ m. R.took v m k) (λ z. let l = z.1 in absurd (omega arith)) (into v h);
    left = λ v h k. ⊎_elim (λ m. R.left v m k) (λ z. let q = R.rest v z.0 in (q.1, q.2)) (into v h);
    rest = λ v h. R.rest v (out v h);
  }

  module _
      {M M' : ℕ → Type 0}
      {m : ℕ}
      {lab' op' bef' : List ℕ}
      (R : Through M f u lab op bef lab' op' bef')
      (fresh : M m → ⊥)
      (into : (v : ℕ) → M' v → (v ≡ m → ⊥) → M v)
      (out : (v : ℕ) → (M' v → ⊥) → (M v → ⊥) × (v ≡ m → ⊥))
    where
      more_took : m < length lab' → m < length op' → m < length bef' → f m < get_or lab' m 0 → Through M' f u lab op bef (set lab' m (f m)) (set op' m (f m)) (set bef' m (u + 1))
      more_took hl ho hb c =
          let q = (R.rest m fresh).0 in
          record {
            len_lab = length-set lab' m (f m) ∙ R.len_lab;
            len_bef = length-set bef' m (u + 1) ∙ R.len_bef;
            better = λ v h. ⊎_elim (λ e. rw e (omega (arith, get_or-set_same lab' m (f m) 0 hl))) (λ ne. get_or-set_other lab' m v (f m) 0 ne ∙ R.better v (into v h ne)) (eq_or_ne v m);
            took = λ v h k.
                ⊎_elim (λ e. rw e (get_or-set_same op' m (f m) 0 ho, get_or-set_same bef' m (u + 1) 0 hb))
                (λ ne. let z = R.took v (into v h ne) k in (get_or-set_other op' m v (f m) 0 ne ∙ z.0, get_or-set_other bef' m v (u + 1) 0 ne ∙ z.1))
                (eq_or_ne v m);
            left = λ v h k.
                ⊎_elim (λ e. absurd (omega (arith, ap f e, ap (λ i. get_or lab i 0) e)))
                (λ ne. let z = R.left v (into v h ne) k in (get_or-set_other op' m v (f m) 0 ne ∙ z.0, get_or-set_other bef' m v (u + 1) 0 ne ∙ z.1))
                (eq_or_ne v m);
            rest = λ v h.
                let r = R.rest v (out v h).0 in
                let ne = (out v h).1 in
                (get_or-set_other lab' m v (f m) 0 ne ∙ r.0, get_or-set_other op' m v (f m) 0 ne ∙ r.1, get_or-set_other bef' m v (u + 1) 0 ne ∙ r.2);
          }

      more_left : get_or lab' m 0 ≤ f m → Through M' f u lab op bef lab' op' bef'
      more_left c =
          let r = R.rest m fresh in
          let q = r.0 in
          record {
            len_lab = R.len_lab;
            len_bef = R.len_bef;
            better = λ v h. ⊎_elim (λ e. rw e (omega arith)) (λ ne. R.better v (into v h ne)) (eq_or_ne v m);
            took = λ v h k. ⊎_elim (λ e. absurd (omega (arith, ap f e, ap (λ i. get_or lab i 0) e))) (λ ne. R.took v (into v h ne) k) (eq_or_ne v m);
            left = λ v h k. ⊎_elim (λ e. rw e (r.1, r.2)) (λ ne. R.left v (into v h ne) k) (eq_or_ne v m);
            rest = λ v h. R.rest v (out v h).0;
          }

      pub through_more : m < length lab' → m < length op' → m < length bef' → {lab'' op'' bef'' : List ℕ} {t : ℕ} → t ≡ f m → Offered lab' op' bef' m u t lab'' op'' bef'' → Through M' f u lab op bef lab'' op'' bef''
      through_more hl ho hb {lab''} {op''} {bef''} {t} e O =
          ⊎_elim
          (λ (c : f m < get_or lab' m 0). let k = O.took (omega arith) in rw (k.0, k.1, k.2, e) (more_took hl ho hb c))
          (λ (c : get_or lab' m 0 ≤ f m). let k = O.left (omega arith) in rw (k.0, k.1, k.2) (more_left c))
          (lt_or_ge (f m) (get_or lab' m 0))

  -- labels stay below open labels
  pub through_above : {M : ℕ → Type 0} {lab' op' bef' : List ℕ} → Through M f u lab op bef lab' op' bef' → ((v : ℕ) → M v ⊎ (M v → ⊥)) → ((v : ℕ) → get_or lab v 0 ≤ get_or op v 0) → (v : ℕ) → get_or lab' v 0 ≤ get_or op' v 0
  through_above R dec a v =
      ⊎_elim
      (λ h. ⊎_elim (λ (c : f v < get_or lab v 0). omega (arith, R.better v h, (R.took v h c).0)) (λ (c : get_or lab v 0 ≤ f v). omega (arith, R.better v h, (R.left v h c).0, a v)) (lt_or_ge (f v) (get_or lab v 0)))
      (λ h. let q = R.rest v h in omega (arith, q.0, q.1, a v))
      (dec v)

-- the nodes from a on, below b
pub record In (a b v : ℕ) : Type 0 where
  pub from : a ≤ v
  pub to : v < b

pub in_or_out : (a b v : ℕ) → In a b v ⊎ (In a b v → ⊥)
in_or_out a b v =
    ⊎_elim (λ (l : v < a). inr (λ h. omega (arith, h.from)))
    (λ (g : a ≤ v). ⊎_elim (λ (c : v < b). inl (record { from = g; to = c })) (λ (c : b ≤ v). inr (λ h. omega (arith, h.to))) (lt_or_ge v b))
    (lt_or_ge v a)

module _ {f : ℕ → ℕ} {u : ℕ} {lab op bef : List ℕ} {a m : ℕ} {lab' op' bef' : List ℕ} (R : Through (In a m) f u lab op bef lab' op' bef') where
  -- the next of a run of nodes
  pub run_more : a ≤ m → m < length lab' → m < length op' → m < length bef' → {lab'' op'' bef'' : List ℕ} {t : ℕ} → t ≡ f m → Offered lab' op' bef' m u t lab'' op'' bef'' → Through (In a (m + 1)) f u lab op bef lab'' op'' bef''
  run_more l hl ho hb e O =
      through_more R (λ h. omega (arith, h.to)) (λ v h ne. record { from = h.from; to = next_in v h.to ne })
      (λ v nix. (λ h. nix (record { from = h.from; to = omega (arith, h.to) }), λ q. nix (record { from = omega arith; to = omega arith })))
      hl ho hb e O
    where
      next_in : (v : ℕ) → v < m + 1 → (v ≡ m → ⊥) → v < m
      next_in v h ne = ⊎_elim (λ (c : v < m). c) (λ (c : m ≤ v). absurd (ne (omega arith))) (lt_or_ge v m)

  -- a run broken off where the rest would not be taken
  pub run_rest : {b : ℕ} → m ≤ b → ((v : ℕ) → m ≤ v → v < b → get_or lab v 0 ≤ f v) → Through (In a b) f u lab op bef lab' op' bef'
  run_rest {b} l late =
      through_skip R
      (λ v h. ⊎_elim (λ (c : v < m). inl (record { from = h.from; to = c })) (λ (c : m ≤ v). inr (λ z. omega (arith, z.to), late v c h.to)) (lt_or_ge v m))
      (λ v nix h. nix (record { from = h.from; to = omega (arith, h.to) }))

-- ---- how many nodes are still open

abbrev bit : Bool → ℕ
bit true = 0
bit false = 1

unfoldable pub opens : (ℕ → Bool) → ℕ → ℕ
opens f zero = 0
opens f (suc n) = bit (f n) + opens f n

opens_same : (f g : ℕ → Bool) (n u : ℕ) → n ≤ u → ((v : ℕ) → (v ≡ u → ⊥) → g v ≡ f v) → opens g n ≡ opens f n
unfolding opens
opens_same f g zero u h k = refl
opens_same f g (suc n) u h k = omega (arith, ap bit (k n (λ e. omega arith)), opens_same f g n u (omega arith) k)

opens_less : (f g : ℕ → Bool) (n u : ℕ) → u < n → f u ≡ false → g u ≡ true → ((v : ℕ) → (v ≡ u → ⊥) → g v ≡ f v) → opens g n < opens f n
unfolding opens
opens_less f g zero u h a b k = absurd (omega arith)
opens_less f g (suc n) u h a b k =
    ⊎_elim (λ (c : u < n). omega (arith, ap bit (k n (λ e. omega arith)), opens_less f g n u c a b k))
    (λ (c : n ≤ u). let e : n ≡ u = omega arith in omega (arith, opens_same f g n u c k, ap (λ i. bit (f i)) e, ap bit a, ap (λ i. bit (g i)) e, ap bit b))
    (lt_or_ge u n)

-- ---- the start

low_mark : (op : List ℕ) (a j : ℕ) → ((v : ℕ) → a ≤ v → v < a + j → get_or op v 0 ≡ top) → low op a j ≡ top
low_mark op a j f = omega (arith, low_ge op a j top (omega arith) (λ v h k. omega (arith, f v h k)), low_top op a j)

blocks_start : (n m : ℕ) → n ≡ 1280 → m ≡ 40 → Blocks (replicate n top) (replicate m top)
blocks_start n m e q = record {
  len_op = length-replicate n top ∙ e;
  len_le = length-replicate m top ∙ q;
  is = λ k h. get_or-replicate m k top 0 (omega arith) ∙ sym (low_mark (replicate n top) (32 * k) 32 (λ v a b. get_or-replicate n v top 0 (omega arith)));
}

-- what a search begins with: few nodes, a node src entered at s, and a next function that is monotone and strictly later
pub record Steps (n : ℕ) (nx : ℕ → ℕ → ℕ → ℕ) (src s : ℕ) : Type 0 where
  pub few : n ≤ 1280
  pub src_in : src < n
  pub s_in : s < top
  pub mono : (w v e e' : ℕ) → w < n → e ≤ e' → nx w v e ≤ nx w v e'
  pub later : (w v e : ℕ) → w < n → e < top → e < nx w v e

module _ {n : ℕ} {nx : ℕ → ℕ → ℕ → ℕ} {goal : ℕ → Bool} {src s : ℕ} (O : Steps n nx src s) where
  start_of : (o m : ℕ) → o ≡ 1280 → m ≡ 40 → (lab bef : List ℕ) → length lab ≡ 1280 → length bef ≡ 1280 → get_or bef src 0 ≡ 0 → ((v : ℕ) → v < 1280 → get_or lab v 0 ≡ top)
      → Going n nx goal src s (set lab src s) (set (replicate o top) src s) (set (replicate m top) (src / 32) s) bef
  start_of o m en em lab bef hl hb zb f = record {
    inv = begin n top src s nx open_all O.src_in (get_or-set_same lab src s 0 (omega arith)) (λ v h ne. get_or-set_other lab src v s 0 ne ∙ f v (omega arith));
    blocks = blocks_lower (blocks_start o m en em) src (src / 32) s (omega arith) (omega arith) (omega arith) (omega arith)
        (omega (arith, get_or-replicate o src top 0 (omega arith))) (omega (arith, get_or-replicate m (src / 32) top 0 (omega arith)));
    above = λ v. omega (arith, same v);
    shut = λ v h c. absurd (omega (arith, same v));
    below = λ v. ⊎_elim (λ e. rw e (omega (arith, get_or-set_same lab src s 0 (omega arith)))) (λ ne. omega (arith, get_or-set_other lab src v s 0 ne, fresh v)) (eq_or_ne v src);
    goals = λ w h d. absurd (not_both d (open_all w h));
    begun = zb;
    tied = λ v h l ne. absurd (omega (arith, get_or-set_other lab src v s 0 ne, f v (omega arith)));
    beyond = λ v h k. get_or-set_other (replicate o top) src v s 0 (λ e. omega arith) ∙ get_or-replicate o v top 0 (omega arith);
    len_lab = length-set lab src s ∙ hl;
    len_bef = hb;
  }
    where
      fresh : (v : ℕ) → get_or lab v 0 ≤ top
      fresh v = ⊎_elim (λ (c : v < 1280). omega (arith, f v c)) (λ (c : 1280 ≤ v). omega (arith, get_or-eq_default lab 0 {n = v} (omega arith))) (lt_or_ge v 1280)

      same : (v : ℕ) → get_or (set lab src s) v 0 ≡ get_or (set (replicate o top) src s) v 0
      same v =
          ⊎_elim (λ e. rw e (get_or-set_same lab src s 0 (omega arith) ∙ sym (get_or-set_same (replicate o top) src s 0 (omega (arith, length-replicate o top)))))
          (λ ne. get_or-set_other lab src v s 0 ne ∙ (
          ⊎_elim (λ (c : v < 1280). f v c ∙ sym (get_or-replicate o v top 0 (omega arith)))
          (λ (c : 1280 ≤ v). get_or-eq_default lab 0 {n = v} (omega arith) ∙ sym (get_or-eq_default (replicate o top) 0 {n = v} (omega (arith, length-replicate o top))))
          (lt_or_ge v 1280) ∙ sym (get_or-set_other (replicate o top) src v s 0 ne)))
          (eq_or_ne v src)

      open_all : (v : ℕ) → v < n → done_of (set lab src s) (set (replicate o top) src s) v ≡ false
      open_all v h = le-ltb (get_or (set lab src s) v 0) (get_or (set (replicate o top) src s) v 0) (omega (arith, same v))

  pub going_start : (lab bef : List ℕ) → length lab ≡ 1280 → length bef ≡ 1280 → get_or bef src 0 ≡ 0 → ((v : ℕ) → v < 1280 → get_or lab v 0 ≡ top)
      → Going n nx goal src s (set lab src s) (set (replicate 1280 top) src s) (set (replicate 40 top) (src / 32) s) bef
  going_start lab bef hl hb zb f = start_of 1280 40 refl refl lab bef hl hb zb f

  -- an open node's open label is its label
  is_open : {lab op le bef : List ℕ} → Going n nx goal src s lab op le bef → (v : ℕ) → done_of lab op v ≡ false → get_or op v 0 ≡ get_or lab v 0
  is_open {lab} {op} G v o = omega (arith, G.above v, ltb-false (get_or lab v 0) (get_or op v 0) o)

  pub going_none : {lab op le bef : List ℕ} {top_of : ℕ} → Going n nx goal src s lab op le bef → n ≤ top_of → Picked top_of op None → Answer n nx goal src s lab bef None
  going_none {lab} {op} G n-of P = record {
    none = not_sought n top src s nx O.src_in O.s_in O.mono O.later G.inv all_open G.goals;
    known_all = known_end n top src s nx O.src_in O.s_in O.mono O.later G.inv all_open 86400 refl;
    marked = G.below;
  }
    where
      all_open : (v : ℕ) → v < n → done_of lab op v ≡ false → top ≤ dist_of lab v
      all_open v h o = omega (arith, P v (omega arith), is_open G v o)

  module _ {lab op le bef : List ℕ} {u top_of : ℕ} (G : Going n nx goal src s lab op le bef) (n-of : n ≤ top_of) (P : PickedAt top_of op u) where
    -- what is picked is a node
    pub in_n : u < n
    in_n = ⊎_elim (λ (c : u < n). c) (λ (c : n ≤ u). absurd (omega (arith, G.beyond u c P.within, P.below))) (lt_or_ge u n)

    same_u : get_or op u 0 ≡ get_or lab u 0
    same_u = ⊎_elim (λ (c : get_or lab u 0 < get_or op u 0). absurd (omega (arith, G.shut u in_n c, P.below))) (λ (c : get_or op u 0 ≤ get_or lab u 0). omega (arith, G.above u)) (lt_or_ge (get_or lab u 0) (get_or op u 0))

    pub low_u : get_or lab u 0 < top
    low_u = omega (arith, same_u, P.below)

    undone_u : done_of lab op u ≡ false
    undone_u = le-ltb (get_or lab u 0) (get_or op u 0) (omega (arith, same_u))

    pick_of : Pick n (done_of lab op) (dist_of lab) u
    pick_of = record {
      within = in_n;
      undone = undone_u;
      least = λ v h o.
          let A = P.first.least v (omega arith) in
          record { le = omega (arith, A.le, same_u, is_open G v o); tie = λ c. A.tie (omega (arith, same_u, is_open G v o)) };
    }

    rooted_of : {S : ℕ → Type 0} → Backs n top src s nx S (dist_of lab) (bef_of bef) → (v : ℕ) → v < n → S v → Rooted lab bef v
    rooted_of {S} B v h m = strong (λ x. (v : ℕ) → v < n → S v → get_or lab v 0 ≡ x → Rooted lab bef v) step (get_or lab v 0) v h m refl
      where
        step : (x : ℕ) → ((y : ℕ) → y < x → (v : ℕ) → v < n → S v → get_or lab v 0 ≡ y → Rooted lab bef v) → (v : ℕ) → v < n → S v → get_or lab v 0 ≡ x → Rooted lab bef v
        step x ih v h m e =
            ⊎_elim (λ q. rw q (root src (omega arith) G.begun))
            (λ q.
            let d = B.falls v h m q in
            link v (omega arith) (G.tied v h (at_lt n top src s nx O.s_in (B.first v h m).at) q) d
            (ih (get_or lab (bef_of bef v) 0) (omega arith) (bef_of bef v) (B.best v h m q).within (B.inside v h m q) refl))
            (eq_or_ne v src)

    pub going_goal : goal u ≡ true → Answer n nx goal src s lab bef (Some u)
    going_goal g =
        let B = backs_stop n top src s nx O.src_in O.s_in O.mono O.later G.inv pick_of low_u in
        record {
          within = P.within;
          sought = stop n top src s nx O.src_in O.s_in O.mono O.later G.inv pick_of low_u G.goals g;
          backs = way n top src s nx B u in_n (inr refl);
          rooted = rooted_of B u in_n (inr refl);
          begun = G.begun;
          tied = G.tied;
          known = known_stop n top src s nx O.src_in O.s_in O.mono O.later G.inv pick_of low_u;
          marked = G.below;
        }

    node : {v : ℕ} → v < n → In 0 n v
    node h = record { from = omega arith; to = h }

    no_node : {v : ℕ} → n ≤ v → In 0 n v → ⊥
    no_node h z = omega (arith, z.to)

    above_set : (v : ℕ) → get_or lab v 0 ≤ get_or (set op u top) v 0
    above_set v = ⊎_elim (λ e. rw e (omega (arith, low_u, get_or-set_same op u top 0 (omega (arith, G.blocks.len_op))))) (λ ne. omega (arith, get_or-set_other op u v top 0 ne, G.above v)) (eq_or_ne v u)

    pub closed_above : {op₁ : List ℕ} → op₁ ≡ set op u top → (v : ℕ) → get_or lab v 0 ≤ get_or op₁ v 0
    closed_above e v = rw e (above_set v)

    module _ {op₁ lab' op' bef' : List ℕ} (shut-u : op₁ ≡ set op u top) (R₁ : Through (In 0 n) (λ v. nx u v (get_or lab u 0)) u lab op₁ bef lab' op' bef') where
      R : Through (In 0 n) (λ v. nx u v (get_or lab u 0)) u lab (set op u top) bef lab' op' bef'
      R = subst (λ o. Through (In 0 n) (λ v. nx u v (get_or lab u 0)) u lab o bef lab' op' bef') shut-u R₁

      lat : (v : ℕ) → get_or lab u 0 < nx u v (get_or lab u 0)
      lat v = O.later u v (get_or lab u 0) in_n low_u

      lab_u : get_or lab' u 0 ≡ get_or lab u 0
      lab_u = omega (arith, R.better u (node in_n), lat u)

      op_u : get_or op' u 0 ≡ top
      op_u = (R.left u (node in_n) (omega (arith, lat u))).0 ∙ get_or-set_same op u top 0 (omega (arith, G.blocks.len_op))

      pub done_u : done_of lab' op' u ≡ true
      done_u = lt-ltb (get_or lab' u 0) (get_or op' u 0) (omega (arith, lab_u, op_u, low_u))

      -- where a node takes the offer, it is open before and after
      took_open : (v : ℕ) → v < n → nx u v (get_or lab u 0) < get_or lab v 0 → done_of lab op v ≡ false
      took_open v h c = ⊎_elim (λ d. absurd (omega (arith, (G.inv.order v u h in_n d undone_u).le, lat v))) (λ o. o) (true_or_false (done_of lab op v))

      other : (v : ℕ) → (v ≡ u → ⊥) → get_or (set op u top) v 0 ≡ get_or op v 0
      other v ne = get_or-set_other op u v top 0 ne

      pub done_other : (v : ℕ) → (v ≡ u → ⊥) → done_of lab' op' v ≡ done_of lab op v
      done_other v ne =
          ⊎_elim
          (λ (h : v < n).
          ⊎_elim
          (λ (c : nx u v (get_or lab u 0) < get_or lab v 0). le-ltb (get_or lab' v 0) (get_or op' v 0) (omega (arith, R.better v (node h), (R.took v (node h) c).0)) ∙ sym (took_open v h c))
          (λ (c : get_or lab v 0 ≤ nx u v (get_or lab u 0)).
          let a : get_or lab' v 0 ≡ get_or lab v 0 = omega (arith, R.better v (node h)) in
          let b : get_or op' v 0 ≡ get_or op v 0 = (R.left v (node h) c).0 ∙ other v ne in
          ap (λ x. ltb x (get_or op' v 0)) a ∙ ap (ltb (get_or lab v 0)) b)
          (lt_or_ge (nx u v (get_or lab u 0)) (get_or lab v 0)))
          (λ (h : n ≤ v). ap (λ x. ltb x (get_or op' v 0)) (R.rest v (no_node h)).0 ∙ ap (ltb (get_or lab v 0)) ((R.rest v (no_node h)).1 ∙ other v ne))
          (lt_or_ge v n)

      pub going_less : opens (done_of lab' op') n < opens (done_of lab op) n
      going_less = opens_less (done_of lab op) (done_of lab' op') n u in_n undone_u done_u done_other

      pub going_turn : {le' : List ℕ} → goal u ≡ false → Blocks op' le' → Going n nx goal src s lab' op' le' bef'
      going_turn {le'} g B = record {
        inv = turn n top src s nx O.src_in O.s_in O.mono O.later G.inv pick_of low_u done_u done_other (λ v h. R.better v (node h))
            (λ v h c. omega (arith, (R.took v (node h) c).1)) (λ v h c. omega (arith, (R.left v (node h) c).1));
        blocks = B;
        above = through_above R (in_or_out 0 n) above_set;
        shut = shut';
        below = λ v. ⊎_elim (λ (c : v < n). omega (arith, R.better v (node c), G.below v)) (λ (c : n ≤ v). omega (arith, (R.rest v (no_node c)).0, G.below v)) (lt_or_ge v n);
        goals = λ w h d. ⊎_elim (λ e. rw e g) (λ ne. G.goals w h (sym (done_other w ne) ∙ d)) (eq_or_ne w u);
        begun = (R.left src (node O.src_in) (omega (arith, G.inv.start, at_ge n top src s nx O.src_in O.s_in O.mono O.later (G.inv.real u in_n low_u), lat src))).1 ∙ G.begun;
        tied = tied';
        beyond = λ v h z. (R.rest v (no_node h)).1 ∙ (other v (λ e. omega (arith, in_n)) ∙ G.beyond v h z);
        len_lab = R.len_lab ∙ G.len_lab;
        len_bef = R.len_bef ∙ G.len_bef;
      }
        where
          tied' : (v : ℕ) → v < n → get_or lab' v 0 < top → (v ≡ src → ⊥) → 0 < get_or bef' v 0
          tied' v h l ne =
              ⊎_elim (λ (c : nx u v (get_or lab u 0) < get_or lab v 0). omega (arith, (R.took v (node h) c).1))
              (λ (c : get_or lab v 0 ≤ nx u v (get_or lab u 0)). omega (arith, (R.left v (node h) c).1, G.tied v h (omega (arith, R.better v (node h))) ne))
              (lt_or_ge (nx u v (get_or lab u 0)) (get_or lab v 0))

          shut' : (v : ℕ) → v < n → get_or lab' v 0 < get_or op' v 0 → get_or op' v 0 ≡ top
          shut' v h c =
              ⊎_elim (λ e. rw e op_u)
              (λ ne.
              let d : ltb (get_or lab v 0) (get_or op v 0) ≡ true = sym (done_other v ne) ∙ lt-ltb (get_or lab' v 0) (get_or op' v 0) c in
              ⊎_elim
              (λ (z : nx u v (get_or lab u 0) < get_or lab v 0). absurd (not_both d (took_open v h z)))
              (λ (z : get_or lab v 0 ≤ nx u v (get_or lab u 0)). (R.left v (node h) z).0 ∙ (other v ne ∙ G.shut v h (ltb-true (get_or lab v 0) (get_or op v 0) d)))
              (lt_or_ge (nx u v (get_or lab u 0)) (get_or lab v 0)))
              (eq_or_ne v u)

-- ---- the way back

pub rooted_in : {lab bef : List ℕ} {v : ℕ} → Rooted lab bef v → v < 1280
rooted_in (root v h e) = h
rooted_in (link v h b d r) = h

pub rooted_back : {lab bef : List ℕ} {v : ℕ} → Rooted lab bef v → 0 < get_or bef v 0 → Rooted lab bef (bef_of bef v) × (get_or lab (bef_of bef v) 0 < get_or lab v 0)
rooted_back (root v h e) z = absurd (omega arith)
rooted_back (link v h b d r) z = (r, d)

pub rooted_small : {lab bef : List ℕ} {v : ℕ} → Rooted lab bef v → get_or bef v 0 ≤ 1280
rooted_small (root v h e) = omega arith
rooted_small (link v h b d r) = omega (arith, rooted_in r)
