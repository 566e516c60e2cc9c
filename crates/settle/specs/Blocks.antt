-- Open labels in blocks of 32 with each block's least: 86,401 is the mark above every second.
use Rattle.std.specs.Prelude.{ℕ, zero, suc, ◌+◌, ◌-◌, ◌*◌, ◌/◌, ◌≤◌, ◌<◌, min, ◌≡◌, refl, ◌⊎◌, Option, Some, None, List, [], ◌∷◌, ◌++◌, length, get_or, set, take, drop}
use Rattle.std.specs.List.{fold}
use Rattle.std.proofs.Common.{sym, ap, ◌∙◌, inl, inr, ⊎_elim, arith, length-set, get_or-set_same, get_or-set_other, length-take-le}
use Rattle.std.proofs.lemmas.List.{get_or-drop, get_or-take, length-drop}
use Rattle.std.proofs.lemmas.List.Sums.{fold-append}
use Rattle.std.proofs.Math.Seq.{take-suc}
use Rattle.laws.specs.Order.{lt_or_ge, eq_or_ne}
use Rattle.label.specs.Label.{Ahead}

-- the least of the j numbers from a on, or the mark
unfoldable pub low : List ℕ → ℕ → ℕ → ℕ
low op a zero = 86401
low op a (suc j) = min (low op a j) (get_or op (a + j) 0)

pub record Blocks (op le : List ℕ) : Type 0 where
  pub len_op : length op ≡ 1280
  pub len_le : length le ≡ 40
  pub is : (k : ℕ) → k < 40 → get_or le k 0 ≡ low op (32 * k) 32

-- r is the first of the least of the first n numbers
pub record FirstLeast (l : List ℕ) (n r : ℕ) : Type 0 where
  pub within : r < n
  pub least : (i : ℕ) → i < n → Ahead (get_or l r 0) r (get_or l i 0) i

-- x stands somewhere in l
pub record Stands (l : List ℕ) (x : ℕ) : Type 0 where
  pub place : ℕ
  pub within : place < length l
  pub is : get_or l place 0 ≡ x

-- and first at r
pub record FirstAt (l : List ℕ) (x r : ℕ) : Type 0 where
  pub within : r < length l
  pub is : get_or l r 0 ≡ x
  pub before : (v : ℕ) → v < r → get_or l v 0 ≡ x → ⊥

-- r is the first of the least of the first n numbers, which is not the mark
pub record PickedAt (n : ℕ) (op : List ℕ) (r : ℕ) : Type 0 where
  pub within : r < 1280
  pub below : get_or op r 0 < 86401
  pub first : FirstLeast op n r

-- none is picked where all are the mark
abbrev pub Picked : ℕ → List ℕ → Option ℕ → Type 0
Picked n op None = (v : ℕ) → v < n → 86401 ≤ get_or op v 0
Picked n op (Some r) = PickedAt n op r

-- entry t into v, by way of w, was offered to the labels
pub record Offered (lab op bef : List ℕ) (v w t : ℕ) (lab' op' bef' : List ℕ) : Type 0 where
  pub took : t < get_or lab v 0 → (lab' ≡ set lab v t) × (op' ≡ set op v t) × (bef' ≡ set bef v (w + 1))
  pub left : get_or lab v 0 ≤ t → (lab' ≡ lab) × (op' ≡ op) × (bef' ≡ bef)

-- ---- laws of the least

pub low_top : (op : List ℕ) (a j : ℕ) → low op a j ≤ 86401
unfolding low
low_top op a zero = omega arith
low_top op a (suc j) = omega (arith, low_top op a j)

pub low_le : (op : List ℕ) (a j v : ℕ) → a ≤ v → v < a + j → low op a j ≤ get_or op v 0
unfolding low
low_le op a zero v h k = absurd (omega arith)
low_le op a (suc j) v h k =
    ⊎_elim (λ (c : v < a + j). omega (arith, low_le op a j v h c))
    (λ (c : a + j ≤ v). let e : a + j ≡ v = omega arith in omega (arith, ap (λ i. get_or op i 0) e))
    (lt_or_ge v (a + j))

-- a bound of all is one of the least
pub low_ge : (op : List ℕ) (a j x : ℕ) → x ≤ 86401 → ((v : ℕ) → a ≤ v → v < a + j → x ≤ get_or op v 0) → x ≤ low op a j
unfolding low
low_ge op a zero x h f = h
low_ge op a (suc j) x h f = omega (arith, low_ge op a j x h (λ v l k. f v l (omega arith)), f (a + j) (omega arith) (omega arith))

pub low_other : (op : List ℕ) (a j w t : ℕ) → (w < a) ⊎ (a + j ≤ w) → low (set op w t) a j ≡ low op a j
unfolding low
low_other op a zero w t o = refl
low_other op a (suc j) w t o =
    let far : (a + j ≡ w) → ⊥ = λ e. ⊎_elim (λ (c : w < a). omega arith) (λ (c : a + suc j ≤ w). omega arith) o in
    let o' : (w < a) ⊎ (a + j ≤ w) = ⊎_elim (λ (c : w < a). inl c) (λ (c : a + suc j ≤ w). inr (omega arith)) o in
    omega (arith, low_other op a j w t o', get_or-set_other op w (a + j) t 0 far)

pub low_lower : (op : List ℕ) (a j w t : ℕ) → a ≤ w → w < a + j → w < length op → t ≤ get_or op w 0 → low (set op w t) a j ≡ min t (low op a j)
unfolding low
low_lower op a zero w t h k l b = absurd (omega arith)
low_lower op a (suc j) w t h k l b =
    ⊎_elim (λ (c : w < a + j). omega (arith, low_lower op a j w t h c l b, get_or-set_other op w (a + j) t 0 (λ e. omega arith)))
    (λ (c : a + j ≤ w).
    let e : a + j ≡ w = omega arith in
    omega (arith, low_other op a j w t (inr c), ap (λ i. get_or (set op w t) i 0) e, get_or-set_same op w t 0 l, ap (λ i. get_or op i 0) e))
    (lt_or_ge w (a + j))

-- ---- one number set, and its block's least with it

module _ {op le : List ℕ} (B : Blocks op le) (w k t : ℕ) (h : 32 * k ≤ w) (l : w < 32 * k + 32) where
  apart : (i : ℕ) → (i ≡ k → ⊥) → (w < 32 * i) ⊎ (32 * i + 32 ≤ w)
  apart i ne = ⊎_elim (λ (c : w < 32 * i). inl c) (λ (c : 32 * i ≤ w). inr (omega arith)) (lt_or_ge w (32 * i))

  pub blocks_set : {x : ℕ} → k < 40 → x ≡ low (set op w t) (32 * k) 32 → Blocks (set op w t) (set le k x)
  blocks_set {x} b e = record {
    len_op = length-set op w t ∙ B.len_op;
    len_le = length-set le k x ∙ B.len_le;
    is = λ i c.
        ⊎_elim (λ q. rw q (get_or-set_same le k x 0 (omega (arith, B.len_le)) ∙ e))
        (λ ne. get_or-set_other le k i x 0 ne ∙ (B.is i c ∙ sym (low_other op (32 * i) 32 w t (apart i ne))))
        (eq_or_ne i k);
  }

  pub blocks_keep : get_or le k 0 ≡ low (set op w t) (32 * k) 32 → Blocks (set op w t) le
  blocks_keep e = record {
    len_op = length-set op w t ∙ B.len_op;
    len_le = B.len_le;
    is = λ i c.
        ⊎_elim (λ q. rw q e)
        (λ ne. B.is i c ∙ sym (low_other op (32 * i) 32 w t (apart i ne)))
        (eq_or_ne i k);
  }

  -- a number lowered
  pub blocks_lower : k < 40 → w < 1280 → t ≤ get_or op w 0 → t < get_or le k 0 → Blocks (set op w t) (set le k t)
  blocks_lower b m d c = blocks_set b (omega (arith, B.is k b, low_lower op (32 * k) 32 w t h l (omega (arith, B.len_op)) d))

  pub blocks_same : k < 40 → w < 1280 → t ≤ get_or op w 0 → get_or le k 0 ≤ t → Blocks (set op w t) le
  blocks_same b m d c = blocks_keep (omega (arith, B.is k b, low_lower op (32 * k) 32 w t h l (omega (arith, B.len_op)) d))

-- ---- the least as the code finds it

-- the least of a stretch is a fold over it
pub low_fold : (op : List ℕ) (a j : ℕ) → a + j ≤ length op → fold min 86401 (take j (drop a op)) ≡ low op a j
unfolding low
low_fold op a zero h = refl
low_fold op a (suc j) h =
    let e : take (suc j) (drop a op) ≡ take j (drop a op) ++ (get_or op (a + j) 0 ∷ []) = rw (take-suc (drop a op) j 0 (omega (arith, length-drop a op)), get_or-drop a op j 0) refl in
    ap (fold min 86401) e ∙ fold-append min 86401 (take j (drop a op)) (get_or op (a + j) 0 ∷ []) ∙ ap (λ x. min x (get_or op (a + j) 0)) (low_fold op a j (omega arith))

-- where it is not the mark, it stands there
low_place : (op : List ℕ) (a j : ℕ) → low op a j < 86401 → (i : ℕ) × (i < j) × (get_or op (a + i) 0 ≡ low op a j)
unfolding low
low_place op a zero h = absurd (omega arith)
low_place op a (suc j) h =
    ⊎_elim (λ (c : low op a j ≤ get_or op (a + j) 0). let w = low_place op a j (omega arith) in let e = w.2 in (w.0, (let k = w.1 in omega arith), omega arith))
    (λ (c : get_or op (a + j) 0 < low op a j). (j, omega arith, omega arith))
    (ge_or_lt (low op a j) (get_or op (a + j) 0))
  where
    ge_or_lt : (x y : ℕ) → (x ≤ y) ⊎ (y < x)
    ge_or_lt x y = ⊎_elim (λ (c : y < x). inr c) (λ (c : x ≤ y). inl c) (lt_or_ge y x)

pub low_stands : (op : List ℕ) (a j : ℕ) → a + j ≤ length op → low op a j < 86401 → Stands (take j (drop a op)) (low op a j)
low_stands op a j h l =
    let w = low_place op a j l in
    let k = w.1 in
    record {
      place = w.0;
      within = omega (arith, length-take-le j (drop a op) (omega (arith, length-drop a op)));
      is = get_or-take j (drop a op) w.0 0 k ∙ get_or-drop a op w.0 0 ∙ w.2;
    }

-- ---- the node picked

module _ {op le : List ℕ} (B : Blocks op le) {n x : ℕ} (b : n ≤ 40) (found : x ≡ fold min 86401 (take n le)) where
  is_x : x ≡ low le 0 n
  is_x = found ∙ low_fold le 0 n (omega (arith, B.len_le))

  above_block : (v : ℕ) → v < 32 * n → (x ≤ get_or le (v / 32) 0) × (get_or le (v / 32) 0 ≤ get_or op v 0)
  above_block v h =
      (omega (arith, is_x, low_le le 0 n (v / 32) (omega arith) (omega arith)), omega (arith, B.is (v / 32) (omega arith), low_le op (32 * (v / 32)) 32 v (omega arith) (omega arith)))

  pub picked_none : 86400 < x → Picked (32 * n) op None
  picked_none h v c = let a = above_block v c in let p = a.0 in let q = a.1 in omega arith

  -- a block has it
  pub least_stands : x ≤ 86400 → Stands (take n le) x
  least_stands h = rw is_x (low_stands le 0 n (omega (arith, B.len_le)) (omega (arith, is_x)))

  block_in : {k : ℕ} → FirstAt (take n le) x k → k < n
  block_in F = omega (arith, F.within, length-take-le n le (omega (arith, B.len_le)))

  -- the block that has it holds a window that has it
  pub block_stands : {k : ℕ} → x ≤ 86400 → FirstAt (take n le) x k → Stands (take 32 (drop (32 * k) op)) x
  block_stands {k} h F =
      let i = block_in F in
      let e : x ≡ low op (32 * k) 32 = sym F.is ∙ get_or-take n le k 0 i ∙ B.is k (omega arith) in
      rw e (low_stands op (32 * k) 32 (omega (arith, B.len_op)) (omega arith))

  pub picked_one : {k r : ℕ} → x ≤ 86400 → FirstAt (take n le) x k → FirstAt (take 32 (drop (32 * k) op)) x r → Picked (32 * n) op (Some (32 * k + r))
  picked_one {k} {r} h F D = record {
    within = omega (arith, block_in F, r-in);
    below = omega (arith, is_r);
    first = record {
      within = omega (arith, block_in F, r-in);
      least = λ v c.
          let a = above_block v c in
          let p = a.0 in
          let q = a.1 in
          record { le = omega (arith, is_r); tie = λ d. by v c (omega (arith, is_r)) (omega (arith, is_r)) };
    };
  }
    where
      r-in : r < 32
      r-in = omega (arith, D.within, length-take-le 32 (drop (32 * k) op) (omega (arith, length-drop (32 * k) op, B.len_op, block_in F)))

      is_r : get_or op (32 * k + r) 0 ≡ x
      is_r = sym (get_or-take 32 (drop (32 * k) op) r 0 r-in ∙ get_or-drop (32 * k) op r 0) ∙ D.is

      by : (v : ℕ) → v < 32 * n → get_or op v 0 ≡ x → get_or le (v / 32) 0 ≡ x → 32 * k + r ≤ v
      by v c e f =
          let i : ℕ = v - 32 * k in
          ⊎_elim
          (λ (z : v < 32 * k + r). absurd (
          ⊎_elim (λ (y : v / 32 < k). F.before (v / 32) y (get_or-take n le (v / 32) 0 (omega arith) ∙ f))
          (λ (y : k ≤ v / 32). let g : 32 * k + i ≡ v = omega arith in D.before i (omega arith) (get_or-take 32 (drop (32 * k) op) i 0 (omega (arith, r-in)) ∙ get_or-drop (32 * k) op i 0 ∙ ap (λ w. get_or op w 0) g ∙ e))
          (lt_or_ge (v / 32) k)))
          (λ (z : 32 * k + r ≤ v). z)
          (lt_or_ge v (32 * k + r))

pub offer_took : (lab op bef : List ℕ) (v w t : ℕ) → t < get_or lab v 0 → Offered lab op bef v w t (set lab v t) (set op v t) (set bef v (w + 1))
offer_took lab op bef v w t h = record { took = λ _. (refl, refl, refl); left = λ k. absurd (omega arith) }

pub offer_left : (lab op bef : List ℕ) (v w t : ℕ) → get_or lab v 0 ≤ t → Offered lab op bef v w t lab op bef
offer_left lab op bef v w t h = record { took = λ k. absurd (omega arith); left = λ _. (refl, refl, refl) }
