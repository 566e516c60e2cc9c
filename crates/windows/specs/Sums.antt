-- Sums f 0 + .. + f (n - 1), which count where each part is 0 or 1.
use Rattle.std.specs.Prelude.{ℕ, zero, suc, ◌+◌, ◌-◌, ◌≤◌, ◌<◌, ◌≡◌, refl}
use Rattle.std.proofs.Common.{ap, ⊎_elim, arith, add-one}
use Rattle.laws.specs.Order.{lt_or_ge}

unfoldable pub sum : (ℕ → ℕ) → ℕ → ℕ
sum f zero = 0
sum f (suc n) = f n + sum f n

pub sum_zero : (f : ℕ → ℕ) → sum f 0 ≡ 0
unfolding sum
sum_zero f = refl

pub sum_next : (f : ℕ → ℕ) (n : ℕ) → sum f (n + 1) ≡ f n + sum f n
unfolding sum
sum_next f n = rw add-one refl

pub sum_first : (f : ℕ → ℕ) (n : ℕ) → sum f (suc n) ≡ f 0 + sum (λ i. f (suc i)) n
unfolding sum
sum_first f zero = refl
sum_first f (suc n) = omega (arith, sum_first f n)

pub sum_more : (f : ℕ → ℕ) (m n : ℕ) → n ≤ m → sum f n ≤ sum f m
unfolding sum
sum_more f zero n h = let e : n ≡ 0 = omega arith in rw e (omega arith)
sum_more f (suc m) n h =
    ⊎_elim (λ (q : n < suc m). omega (arith, sum_more f m n (omega arith)))
    (λ (q : suc m ≤ n). let e : n ≡ suc m = omega arith in rw e (omega arith))
    (lt_or_ge n (suc m))

pub sum_same : (f g : ℕ → ℕ) (n : ℕ) → ((i : ℕ) → i < n → f i ≡ g i) → sum f n ≡ sum g n
unfolding sum
sum_same f g zero h = refl
sum_same f g (suc n) h = omega (arith, h n (omega arith), sum_same f g n (λ i l. h i (omega arith)))

-- all parts are 0
pub sum_none : (f : ℕ → ℕ) (n : ℕ) → ((i : ℕ) → i < n → f i ≡ 0) → sum f n ≡ 0
unfolding sum
sum_none f zero h = refl
sum_none f (suc n) h = omega (arith, h n (omega arith), sum_none f n (λ i l. h i (omega arith)))

-- all parts are 1
pub sum_all : (f : ℕ → ℕ) (n : ℕ) → ((i : ℕ) → i < n → f i ≡ 1) → sum f n ≡ n
unfolding sum
sum_all f zero h = refl
sum_all f (suc n) h = omega (arith, h n (omega arith), sum_all f n (λ i l. h i (omega arith)))

-- all parts are at most 1
pub sum_le : (f : ℕ → ℕ) (n : ℕ) → ((i : ℕ) → f i ≤ 1) → sum f n ≤ n
unfolding sum
sum_le f zero h = omega arith
sum_le f (suc n) h = omega (arith, h n, sum_le f n h)

-- and one of them is 0
pub sum_lt : (f : ℕ → ℕ) (n r : ℕ) → ((i : ℕ) → f i ≤ 1) → r < n → f r ≡ 0 → sum f n < n
unfolding sum
sum_lt f zero r h l e = absurd (omega arith)
sum_lt f (suc n) r h l e =
    ⊎_elim (λ (q : r < n). omega (arith, sum_lt f n r h q e, h n)) (λ (q : n ≤ r). let z : n ≡ r = omega arith in omega (arith, sum_le f n h, ap f z)) (lt_or_ge r n)

-- parts that differ at r only
pub sum_change : (f g : ℕ → ℕ) (n r : ℕ) → ((i : ℕ) → (i ≡ r → ⊥) → g i ≡ f i) → r < n → sum g n + f r ≡ sum f n + g r
unfolding sum
sum_change f g zero r h l = absurd (omega arith)
sum_change f g (suc n) r h l =
    ⊎_elim (λ (q : r < n). omega (arith, sum_change f g n r h q, h n (λ e. omega arith)))
    (λ (q : n ≤ r). let z : n ≡ r = omega arith in omega (arith, sum_same g f n (λ i k. h i (λ e. omega arith)), ap f z, ap g z))
    (lt_or_ge r n)

-- only the parts a .. b - 1 are not 0
pub sum_run : (f : ℕ → ℕ) (a b m : ℕ) → a ≤ b → b ≤ m → ((i : ℕ) → i < a → f i ≡ 0) → ((i : ℕ) → b ≤ i → i < m → f i ≡ 0) → sum f m ≡ sum (λ i. f (a + i)) (b - a)
unfolding sum
sum_run f a b zero u w lo hi = let e : b - a ≡ 0 = omega arith in rw e refl
sum_run f a b (suc m) u w lo hi =
    ⊎_elim (λ (q : b < suc m). omega (arith, hi m (omega arith) (omega arith), sum_run f a b m u (omega arith) lo (λ i x y. hi i x (omega arith))))
    (λ (q : suc m ≤ b).
    ⊎_elim (λ (o : a < b).
    let e : b - a ≡ suc (m - a) = omega arith in
    let g : a + (m - a) ≡ m = omega arith in
    rw e (omega (arith, ap f g, sum_run f a m m (omega arith) (omega arith) lo (λ i x y. absurd (omega arith)))))
    (λ (o : b ≤ a). let e : b - a ≡ 0 = omega arith in rw e (sum_none f (suc m) (λ i l. lo i (omega arith))))
    (lt_or_ge a b))
    (lt_or_ge b (suc m))
