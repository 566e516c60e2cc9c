-- The load so far, and the kept exits: from the last entry on, the load is the number of kept exits above the second.
use Rattle.std.specs.Prelude.{ℕ, zero, suc, ◌+◌, ◌≤◌, ◌<◌, ◌≡◌, refl, List, length, set, replicate, ltb}
use Rattle.std.proofs.Math.Path.{ap}
use Rattle.std.proofs.Common.{⊎_elim, arith, add-one, get_or-set_same, get_or-set_other, le-leb, lt-ltb, le-ltb}
use Rattle.std.proofs.lemmas.Bool.{lt-leb}
use Rattle.laws.specs.Order.{lt_or_ge}
use Rattle.laws.specs.Lists.{at}
use Rattle.rules.specs.Rows.{bit}
use Rattle.windows.specs.Sums.{sum, sum_zero, sum_next, sum_more, sum_none, sum_all, sum_le, sum_lt, sum_change}
use Rattle.windows.specs.Sweep.{covered, load_to, InOrder}

-- 1 where second t is before exit x
unfoldable pub over : ℕ → ℕ → ℕ
over x t = bit (ltb t x)

pub over_yes : (x t : ℕ) → t < x → over x t ≡ 1
unfolding over
over_yes x t h = rw (lt-ltb t x h)

pub over_no : (x t : ℕ) → x ≤ t → over x t ≡ 0
unfolding over
over_no x t h = rw (le-ltb t x h)

over_le : (x t : ℕ) → over x t ≤ 1
over_le x t = ⊎_elim (λ (h : t < x). omega (arith, over_yes x t h)) (λ (h : x ≤ t). omega (arith, over_no x t h)) (lt_or_ge t x)

pub covered_from : (e x t : ℕ) → e ≤ t → covered e x t ≡ over x t
unfolding over covered
covered_from e x t h = rw (le-leb e t h)

pub covered_before : (e x t : ℕ) → t < e → covered e x t ≡ 0
unfolding covered
covered_before e x t h = rw (lt-leb e t h)

-- how many of the first c kept exits are above t
unfoldable pub above : List ℕ → ℕ → ℕ → ℕ
above top c t = sum (λ k. over (at top k) t) c

module _ (top : List ℕ) (c t : ℕ) where
  pub above_le : above top c t ≤ c
  unfolding above
  above_le = sum_le (λ k. over (at top k) t) c (λ k. over_le (at top k) t)

  pub above_none : ((k : ℕ) → k < c → at top k ≤ t) → above top c t ≡ 0
  unfolding above
  above_none h = sum_none (λ k. over (at top k) t) c (λ k l. over_no (at top k) t (h k l))

  pub above_all : ((k : ℕ) → k < c → t < at top k) → above top c t ≡ c
  unfolding above
  above_all h = sum_all (λ k. over (at top k) t) c (λ k l. over_yes (at top k) t (h k l))

  pub above_some : (r : ℕ) → r < c → at top r ≤ t → above top c t < c
  unfolding above
  above_some r h l = sum_lt (λ k. over (at top k) t) c r (λ k. over_le (at top k) t) h (over_no (at top r) t l)

  pub above_set : (r x : ℕ) → r < c → r < length top → above (set top r x) c t + over (at top r) t ≡ above top c t + over x t
  unfolding above
  above_set r x h l =
      omega (arith, sum_change (λ k. over (at top k) t) (λ k. over (at (set top r x) k) t) c r (λ k n. ap (λ z. over z t) (get_or-set_other top r k x 0 n)) h, ap (λ z. over z t) (get_or-set_same top r x 0 l))

-- ---- the load so far

module _ (en ex : ℕ → ℕ) where
  pub load_none : (t : ℕ) → load_to en ex 0 t ≡ 0
  unfolding load_to
  load_none t = sum_zero (λ i. covered (en i) (ex i) t)

  pub load_next : (n t : ℕ) → load_to en ex (n + 1) t ≡ covered (en n) (ex n) t + load_to en ex n t
  unfolding load_to
  load_next n t = sum_next (λ i. covered (en i) (ex i) t) n

  pub load_more : (m n t : ℕ) → n ≤ m → load_to en ex n t ≤ load_to en ex m t
  unfolding load_to
  load_more m n t h = sum_more (λ i. covered (en i) (ex i) t) m n h

-- the entry of the last of n rows
unfoldable pub last_entry : (ℕ → ℕ) → ℕ → ℕ
last_entry en zero = 0
last_entry en (suc n) = en n

pub last_none : (en : ℕ → ℕ) → last_entry en 0 ≡ 0
unfolding last_entry
last_none en = refl

pub last_next : (en : ℕ → ℕ) (n : ℕ) → last_entry en (n + 1) ≡ en n
unfolding last_entry
last_next en n = rw add-one refl

pub last_le : {en ex : ℕ → ℕ} {m : ℕ} → InOrder en ex m → (n : ℕ) → n < m → last_entry en n ≤ en n
unfolding last_entry
last_le R zero h = omega arith
last_le R (suc n) h = R.sorted n h

pub zeros : (n k : ℕ) → at (replicate n 0) k ≡ 0
zeros zero k = refl
zeros (suc n) zero = refl
zeros (suc n) (suc k) = zeros n k
