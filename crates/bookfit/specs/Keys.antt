-- A key is made of its three parts, and so is the key of a row's successor.
use Rattle.std.specs.Prelude.{ℕ, ◌<◌, ◌≡◌}
use Rattle.std.proofs.Common.{sym, ◌∙◌, arith}
use Rattle.flat.specs.Flat.{place_of, entry_of, ticket_of, key_of, exit_of, next_value}
use Rattle.flat.specs.Laws.{key_parts}
use Rattle.bookfit.specs.Join.{next_key_value}

-- equal parts are equal keys
pub same_key : (a b : ℕ) → place_of a ≡ place_of b → entry_of a ≡ entry_of b → ticket_of a ≡ ticket_of b → a ≡ b
same_key a b e f g = key_parts a ∙ (λ i. key_of (e i) (f i) (g i)) ∙ sym (key_parts b)

-- the successor's key by its parts
pub key_next : (a x b : ℕ) → place_of b ≡ next_value x → entry_of b ≡ exit_of x → ticket_of b ≡ ticket_of a → b ≡ next_key_value a x
unfolding next_key_value
key_next a x b e f g = omega arith

pub next_parts : (a x b : ℕ) → exit_of x < 16777216 → b ≡ next_key_value a x → (place_of b ≡ next_value x) × (entry_of b ≡ exit_of x) × (ticket_of b ≡ ticket_of a)
unfolding next_key_value
next_parts a x b h e = (omega arith, omega arith, omega arith)

pub same_next : (a x b y : ℕ) → next_value x ≡ next_value y → exit_of x ≡ exit_of y → ticket_of a ≡ ticket_of b → next_key_value a x ≡ next_key_value b y
unfolding next_key_value
same_next a x b y e f g = omega arith

pub next_same : (a x b y : ℕ) → exit_of x < 16777216 → exit_of y < 16777216 → next_key_value a x ≡ next_key_value b y → (next_value x ≡ next_value y) × (exit_of x ≡ exit_of y) × (ticket_of a ≡ ticket_of b)
unfolding next_key_value
next_same a x b y h k e = (omega arith, omega arith, omega arith)
