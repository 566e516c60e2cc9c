-- The windows before: the trail that leads to a window, in travel order, and that it has at most as many windows as there are.
use Rattle.std.specs.Prelude.{ℕ, zero, suc, ◌+◌, ◌-◌, ◌≤◌, ◌<◌, ◌≡◌, Bool, true, false, List, [], ◌∷◌, ◌++◌, length, take, set, ltb}
use Rattle.std.proofs.Common.{sym, ap, subst, ◌∙◌, ⊎_elim, arith, add-one, length-set, take-suc-set, get_or-take, length-take-le, lt-ltb, le-ltb}
use Rattle.laws.specs.Order.{lt_or_ge}
use Rattle.laws.specs.Lists.{at}
use Rattle.rules.specs.Rows.{bit}
use Rattle.settle.specs.Search.{Rooted, rooted_in, rooted_back}

-- going back from w with the windows `after` behind it; windows before are kept with one added, 0 where the way begins
pub data Trail (bef : List ℕ) : ℕ → List ℕ → List ℕ → Type 0 where
  root : {w : ℕ} {after : List ℕ} → at bef w ≡ 0 → Trail bef w after (w ∷ after)
  back : {w : ℕ} {after path : List ℕ} → 0 < at bef w → Trail bef (at bef w - 1) (w ∷ after) path → Trail bef w after path

pub trail_snoc : {bef : List ℕ} {w : ℕ} {after path : List ℕ} (x : List ℕ) → Trail bef w after path → Trail bef w (after ++ x) (path ++ x)
trail_snoc x (root e) = root e
trail_snoc x (back h t) = back h (trail_snoc x t)

-- the trail to w ends in w and what is behind it: from its place k on
pub trail_ends : {bef : List ℕ} {w : ℕ} {after path : List ℕ} → Trail bef w after path
    → (k : ℕ) × (k + suc (length after) ≡ length path) × ((j : ℕ) → at path (k + j) ≡ at (w ∷ after) j)
trail_ends {w = w} {after = after} (root e) = (0, omega arith, λ j. ap (at (w ∷ after)) (let z : 0 + j ≡ j = omega arith in z))
trail_ends {path = path} (back h t) =
    let i = trail_ends t in
    let q = i.1 in
    (i.0 + 1, omega arith, λ j. ap (at path) (let z : i.0 + 1 + j ≡ i.0 + suc j = omega arith in z) ∙ i.2 (suc j))

-- how many of the first n labels are below x
unfoldable pub rank : List ℕ → ℕ → ℕ → ℕ
rank lab zero x = 0
rank lab (suc n) x = bit (ltb (at lab n) x) + rank lab n x

yes : (a x : ℕ) → a < x → bit (ltb a x) ≡ 1
yes a x h = rw (lt-ltb a x h)

not_yes : (a x : ℕ) → x ≤ a → bit (ltb a x) ≡ 0
not_yes a x h = rw (le-ltb a x h)

bit_up : (a x y : ℕ) → x ≤ y → bit (ltb a x) ≤ bit (ltb a y)
bit_up a x y h =
    ⊎_elim (λ (c : a < x). omega (arith, yes a x c, yes a y (omega arith))) (λ (c : x ≤ a). omega (arith, not_yes a x c)) (lt_or_ge a x)

rank_up : (lab : List ℕ) (n x y : ℕ) → x ≤ y → rank lab n x ≤ rank lab n y
unfolding rank
rank_up lab zero x y h = omega arith
rank_up lab (suc n) x y h = omega (arith, rank_up lab n x y h, bit_up (at lab n) x y h)

bit_le : (b : Bool) → bit b ≤ 1
bit_le true = omega arith
bit_le false = omega arith

-- a lower label has a lower rank
pub rank_less : (lab : List ℕ) (n b y : ℕ) → b < n → at lab b < y → rank lab n (at lab b) < rank lab n y
unfolding rank
rank_less lab zero b y h k = absurd (omega arith)
rank_less lab (suc n) b y h k =
    ⊎_elim (λ (c : b < n). omega (arith, rank_less lab n b y c k, bit_up (at lab n) (at lab b) y (omega arith)))
    (λ (c : n ≤ b).
    let e : n ≡ b = omega arith in
    let f : at lab n ≡ at lab b = ap (at lab) e in
    omega (arith, yes (at lab n) y (omega arith), not_yes (at lab n) (at lab b) (omega arith), rank_up lab n (at lab b) y (omega arith)))
    (lt_or_ge b n)

rank_le : (lab : List ℕ) (n x : ℕ) → rank lab n x ≤ n
unfolding rank
rank_le lab zero x = omega arith
rank_le lab (suc n) x = omega (arith, rank_le lab n x, bit_le (ltb (at lab n) x))

pub rank_within : (lab : List ℕ) (n b : ℕ) → b < n → rank lab n (at lab b) < n
unfolding rank
rank_within lab zero b h = absurd (omega arith)
rank_within lab (suc n) b h =
    ⊎_elim (λ (c : b < n). omega (arith, rank_within lab n b c, bit_le (ltb (at lab n) (at lab b))))
    (λ (c : n ≤ b).
    let e : n ≡ b = omega arith in
    let f : at lab n ≡ at lab b = ap (at lab) e in
    omega (arith, not_yes (at lab n) (at lab b) (omega arith), rank_le lab n (at lab b)))
    (lt_or_ge b n)

-- the first r numbers of path are the trail to w
pub record Trailed (lab bef : List ℕ) (w r : ℕ) (path : List ℕ) : Type 0 where
  pub some : 1 ≤ r
  pub few : r ≤ rank lab 1280 (at lab w) + 1
  pub trail : Trail bef w [] (take r path)
  pub long : length path ≡ 1280

-- the last of them is w
pub trailed_last : {lab bef : List ℕ} {w r : ℕ} {path : List ℕ} → r ≤ 1280 → Trailed lab bef w r path → (i : ℕ) → suc i ≡ r → at path i ≡ w
trailed_last {w = w} {r = r} {path = path} f T i e =
    let x = trail_ends T.trail in
    let q = x.1 in
    let l : length (take r path) ≡ r = length-take-le r path (omega (arith, T.long)) in
    let z : i ≡ x.0 + 0 = omega arith in
    sym (get_or-take r path i 0 (omega arith)) ∙ (ap (at (take r path)) z ∙ x.2 0)

pub trailed_root : (lab : List ℕ) {bef : List ℕ} {w : ℕ} (path : List ℕ) → at bef w ≡ 0 → length path ≡ 1280 → Trailed lab bef w 1 (set path 0 w)
trailed_root lab {bef} {w} path e l = record {
  some = omega arith;
  few = omega arith;
  trail = subst (Trail bef w []) (sym (take-suc-set path 0 w (omega arith))) (root e);
  long = length-set path 0 w ∙ l;
}

pub trailed_fits : {lab bef : List ℕ} {w r : ℕ} {path : List ℕ} → w < 1280 → Trailed lab bef w r path → r ≤ 1280
trailed_fits {lab} {w = w} h T = omega (arith, T.few, rank_within lab 1280 w h)

-- the trail to a window entered sooner leaves room for one more
pub trailed_room : {lab bef : List ℕ} {w b r : ℕ} {path : List ℕ} → w < 1280 → b < 1280 → at lab b < at lab w → Trailed lab bef b r path → r < 1280
trailed_room {lab} {bef} {w} {b} h k d T = omega (arith, T.few, rank_less lab 1280 b (at lab w) k d, rank_within lab 1280 w h)

-- one more than the trail to the window before
pub trailed_back : {lab bef : List ℕ} {w r : ℕ} {path : List ℕ} → w < 1280 → 0 < at bef w → at lab (at bef w - 1) < at lab w → at bef w - 1 < 1280
    → Trailed lab bef (at bef w - 1) r path → Trailed lab bef w (r + 1) (set path r w)
trailed_back {lab} {bef} {w} {r} {path} h b d k T = record {
  some = omega arith;
  few = omega (arith, T.few, rank_less lab 1280 (at bef w - 1) (at lab w) k d);
  trail = subst (Trail bef w []) (sym (ap (λ n. take n (set path r w)) (add-one r) ∙ take-suc-set path r w (omega (arith, trailed_room h k d T, T.long)))) (back b (trail_snoc (w ∷ []) T.trail));
  long = length-set path r w ∙ T.long;
}

-- the same where windows are chained to the first
module _ {lab bef : List ℕ} {w k : ℕ} {path : List ℕ} (R : Rooted lab bef w) (b : 0 < at bef w) (T : Trailed lab bef (at bef w - 1) k path) where
  pub rooted_room : k < 1280
  rooted_room = let z = rooted_back R b in trailed_room (rooted_in R) (rooted_in z.0) z.1 T

  pub rooted_trail : Trailed lab bef w (k + 1) (set path k w)
  rooted_trail = let z = rooted_back R b in trailed_back (rooted_in R) b z.1 (rooted_in z.0) T
