-- How the rows of tickets join, by index over keys K and tails X: a row that is not last has its successor
-- among the rows, which no row before it has, and no last row comes after another of its ticket.
use Rattle.std.specs.Prelude.{ℕ, ◌<◌, ◌≡◌}
use Rattle.flat.specs.Flat.{place_of, ticket_of, key_of, exit_of, next_value}

-- the key of the row that follows
unfoldable pub next_key_value : ℕ → ℕ → ℕ
next_key_value key tail = key_of (next_value tail) (exit_of tail) (ticket_of key)

-- next is the row's own place
abbrev pub IsLast : ℕ → ℕ → Type 0
IsLast key tail = next_value tail ≡ place_of key

pub record Found (K : ℕ → ℕ) (n k : ℕ) : Type 0 where
  pub at : ℕ
  pub within : at < n
  pub is : K at ≡ k

-- row i, where it goes on, has its successor among n rows, and no row before it the same one
pub record Joins (K X : ℕ → ℕ) (n i : ℕ) : Type 0 where
  pub found : (IsLast (K i) (X i) → ⊥) → Found K n (next_key_value (K i) (X i))
  pub alone : (IsLast (K i) (X i) → ⊥) → (j : ℕ) → j < i → (IsLast (K j) (X j) → ⊥) → next_key_value (K j) (X j) ≡ next_key_value (K i) (X i) → ⊥

-- a last row of ticket t is below c
pub record LastBelow (K X : ℕ → ℕ) (c t : ℕ) : Type 0 where
  pub row : ℕ
  pub below : row < c
  pub last : IsLast (K row) (X row)
  pub ticket : ticket_of (K row) ≡ t

-- row c is last and an earlier one of its ticket is
pub record Clash (K X : ℕ → ℕ) (c : ℕ) : Type 0 where
  pub last : IsLast (K c) (X c)
  pub earlier : LastBelow K X c (ticket_of (K c))

-- row i is not a second last row of its ticket
abbrev pub EndsOnce : (K X : ℕ → ℕ) (i : ℕ) → Type 0
EndsOnce K X i = Clash K X i → ⊥
