-- Decisions put together: of joined facts, of one fact where another holds, of the numbers below a bound, of the rows of a list.
use Rattle.std.specs.Prelude.{ℕ, ◌<◌, ◌≡◌, refl, ◌⊎◌, Bool, true, false}
use Rattle.std.proofs.Common.{subst, inl, inr, ⊎_elim, arith}
use mathlib.Core.List.Memᴰ
use mathlib.Core.List.{List, [], ◌∷◌, Memᴰ}
use Rattle.std.proofs.Math.Decide.{ℕ_discrete}
use Rattle.laws.specs.Order.{Least, NoneIn, least}
use Rattle.laws.specs.Tests.{not_both}
use Rattle.rules.specs.declared.Row.{Row}
use Rattle.rules.specs.RowLaws.{row_eq}

-- ---- facts

-- the same fact in other words
pub as? : {A B : Type 0} → Dec A → (A → B) → (B → A) → Dec B
as? (yes a) f g = yes (f a)
as? (no h) f g = no (λ b. h (g b))

pub both? : {A B : Type 0} → Dec A → Dec B → Dec (A × B)
both? (yes a) (yes b) = yes (a, b)
both? (yes a) (no g) = no (λ x. g x.1)
both? (no f) d = no (λ x. f x.0)

pub implies? : {A B : Type 0} → Dec A → Dec B → Dec (A → B)
implies? (yes a) (yes b) = yes (λ _. b)
implies? (yes a) (no g) = no (λ f. g (f a))
implies? (no f) d = yes (λ a. absurd (f a))

pub not? : {A : Type 0} → Dec A → Dec (A → ⊥)
not? d = implies? d (no (λ z. z))

-- what cannot fail holds
pub stable : {A : Type 0} → Dec A → ((A → ⊥) → ⊥) → A
stable (yes a) f = a
stable (no g) f = absurd (f g)

pub true? : (b : Bool) → Dec (b ≡ true)
true? true = yes refl
true? false = no (λ e. not_both e refl)

-- ---- numbers below a bound

pub below? : {Q : ℕ → Type 0} → ((i : ℕ) → Dec (Q i)) → (n : ℕ) → Dec ((i : ℕ) → i < n → Q i)
below? {Q} dec n = go (least (λ i. Q i → ⊥) (λ i. not? (dec i)) 0 n (omega arith))
  where
    go : Least (λ i. Q i → ⊥) 0 n ⊎ NoneIn (λ i. Q i → ⊥) 0 n → Dec ((i : ℕ) → i < n → Q i)
    go (inl l) = no (λ f. l.holds (f l.at l.to))
    go (inr f) = yes (λ i h. stable (dec i) (f i (omega arith) h))

pub some_below? : {Q : ℕ → Type 0} → ((i : ℕ) → Dec (Q i)) → (n : ℕ) → Dec ((i : ℕ) × (i < n) × Q i)
some_below? {Q} dec n = go (least Q dec 0 n (omega arith))
  where
    go : Least Q 0 n ⊎ NoneIn Q 0 n → Dec ((i : ℕ) × (i < n) × Q i)
    go (inl l) = yes (l.at, l.to, l.holds)
    go (inr f) = no (λ x. f x.0 (omega arith) x.1 x.2)

-- ---- rows of a list

pub some? : {Q : Row → Type 0} → ((r : Row) → Dec (Q r)) → (rows : List Row) → Dec ((r : Row) × Memᴰ r rows × Q r)
some? dec [] = no (λ x. Memᴰ.not-nil x.1)
some? {Q} dec (a ∷ rows) = go (dec a) (some? dec rows)
  where
    go : Dec (Q a) → Dec ((r : Row) × Memᴰ r rows × Q r) → Dec ((r : Row) × Memᴰ r (a ∷ rows) × Q r)
    go (yes q) d = yes (a, Memᴰ.head refl, q)
    go (no f) (yes x) = yes (x.0, Memᴰ.tail x.1, x.2)
    go (no f) (no g) =
        no (λ x. ⊎_elim (λ (e : x.0 ≡ a). f (subst Q e x.2)) (λ (m : Memᴰ x.0 rows). g (x.0, m, x.2)) (Memᴰ.cases_cons x.1))

pub every? : {Q : Row → Type 0} → ((r : Row) → Dec (Q r)) → (rows : List Row) → Dec ((r : Row) → Memᴰ r rows → Q r)
every? {Q} dec rows = go (some? (λ r. not? (dec r)) rows)
  where
    go : Dec ((r : Row) × Memᴰ r rows × (Q r → ⊥)) → Dec ((r : Row) → Memᴰ r rows → Q r)
    go (yes x) = no (λ f. x.2 (f x.0 x.1))
    go (no f) = yes (λ r m. stable (dec r) (λ g. f (r, m, g)))

pub same_row? : (r s : Row) → Dec (r ≡ s)
same_row? r s = as?
    (both? (ℕ_discrete r.place s.place) (both? (ℕ_discrete r.entry s.entry) (both? (ℕ_discrete r.ticket s.ticket)
    (both? (ℕ_discrete r.exit s.exit) (ℕ_discrete r.next s.next)))))
    (λ x. row_eq x.0 x.1.0 x.1.1.0 x.1.1.1.0 x.1.1.1.1)
    (λ e. (λ i. (e i).place, (λ i. (e i).entry, (λ i. (e i).ticket, (λ i. (e i).exit, λ i. (e i).next)))))
