-- Case analysis on order, strong induction, and the least number of a range that has a property.
use Rattle.std.specs.Prelude.{ℕ, zero, suc, ◌+◌, ◌-◌, ◌≤◌, ◌<◌, ◌≡◌, ◌⊎◌}
use Rattle.std.proofs.Common.{subst, inl, inr, ⊎_elim, arith}
use Rattle.std.proofs.Math.Decide.{dec_lt, ℕ_discrete}

-- order by cases
pub lt_or_ge : (a b : ℕ) → (a < b) ⊎ (b ≤ a)
lt_or_ge a b = go (dec_lt a b)
  where
    go : Dec (a < b) → (a < b) ⊎ (b ≤ a)
    go (yes h) = inl h
    go (no h) = inr (omega arith)

pub eq_or_ne : (a b : ℕ) → (a ≡ b) ⊎ (a ≡ b → ⊥)
eq_or_ne a b = go (ℕ_discrete a b)
  where
    go : Dec (a ≡ b) → (a ≡ b) ⊎ (a ≡ b → ⊥)
    go (yes h) = inl h
    go (no h) = inr h

-- strong induction
module _ (P : ℕ → Type 0) (step : (n : ℕ) → ((m : ℕ) → m < n → P m) → P n) where
  strong_below : (b n : ℕ) → n < b → P n
  strong_below zero n h = absurd (omega arith)
  strong_below (suc b) n h = step n (λ m k. strong_below b m (omega arith))

  pub strong : (n : ℕ) → P n
  strong n = strong_below (suc n) n (omega arith)

-- the least of the numbers from lo, of which there are k to look at, for which P holds: it and what lies below it, or none of them
pub record Least (P : ℕ → Type 0) (lo hi : ℕ) : Type 0 where
  pub at : ℕ
  pub from : lo ≤ at
  pub to : at < hi
  pub holds : P at
  pub before : (m : ℕ) → lo ≤ m → m < at → P m → ⊥

abbrev pub NoneIn : (ℕ → Type 0) → ℕ → ℕ → Type 0
NoneIn P lo hi = (m : ℕ) → lo ≤ m → m < hi → P m → ⊥

module _ (P : ℕ → Type 0) (dec : (n : ℕ) → Dec (P n)) where
  -- lo is looked at first, then the k - 1 numbers after it
  least_up : (k lo hi : ℕ) → lo + k ≡ hi → Least P lo hi ⊎ NoneIn P lo hi
  least_up zero lo hi e = inr (λ m a b p. omega arith)
  least_up (suc k) lo hi e = go (dec lo) (least_up k (suc lo) hi (omega arith))
    where
      go : Dec (P lo) → Least P (suc lo) hi ⊎ NoneIn P (suc lo) hi → Least P lo hi ⊎ NoneIn P lo hi
      go (yes p) r = inl (record { at = lo; from = omega arith; to = omega arith; holds = p; before = λ m a b q. omega arith })
      go (no h) (inl l) = inl (record { at = l.at; from = omega arith; to = l.to; holds = l.holds; before = λ m a b q. ⊎_elim (λ (c : lo < m). l.before m c b q) (λ (c : m ≤ lo). h (subst P (omega arith) q)) (lt_or_ge lo m) })
      go (no h) (inr f) = inr (λ m a b q. ⊎_elim (λ (c : lo < m). f m c b q) (λ (c : m ≤ lo). h (subst P (omega arith) q)) (lt_or_ge lo m))

  -- the least number of lo .. hi - 1 for which P holds, or none
  pub least : (lo hi : ℕ) → lo ≤ hi → Least P lo hi ⊎ NoneIn P lo hi
  least lo hi h = least_up (hi - lo) lo hi (omega arith)

-- the greatest c ≤ hi for which P (c - 1) fails, i.e. the start of the stretch of P that ends at hi
pub record Stretch (P : ℕ → Type 0) (hi : ℕ) : Type 0 where
  pub lo : ℕ
  pub up : lo ≤ hi
  pub all : (m : ℕ) → lo ≤ m → m < hi → P m
  pub end : (c : ℕ) → suc c ≡ lo → P c → ⊥

module _ (P : ℕ → Type 0) (dec : (n : ℕ) → Dec (P n)) where
  pub stretch : (hi : ℕ) → Stretch P hi
  stretch zero = record { lo = zero; up = omega arith; all = λ m a b. absurd (omega arith); end = λ c e. omega arith }
  stretch (suc n) = go (dec n) (stretch n)
    where
      go : Dec (P n) → Stretch P n → Stretch P (suc n)
      go (yes p) s = record { lo = s.lo; up = omega arith; all = λ m a b. ⊎_elim (λ (c : m < n). s.all m a c) (λ (c : n ≤ m). subst P (omega arith) p) (lt_or_ge m n); end = s.end }
      go (no h) s = record { lo = suc n; up = omega arith; all = λ m a b. absurd (omega arith); end = λ c e q. h (subst P (omega arith) q) }
