-- Hexadecimal digits: a digit tells its value, and a line of digits tells the bytes that it was written from.
use Rattle.std.specs.Prelude.{ℕ, zero, suc, ◌+◌, ◌-◌, ◌*◌, ◌/◌, ◌%◌, ◌≤◌, ◌<◌, ◌≡◌, refl, ◌⊎◌, List, [], ◌∷◌, ◌++◌, length, get_or}
use Rattle.std.proofs.Common.{ap, inl, inr, ⊎_elim, arith, lt-ltb, le-ltb}
use Rattle.laws.specs.Order.{lt_or_ge}
use Rattle.rules.specs.Bytes.{byte_at}
use Rattle.rules.specs.Frames.{digit, hex_of}

pub digit_low : (x : ℕ) → x < 10 → digit x ≡ 48 + x
unfolding digit
digit_low x h = rw (lt-ltb x 10 h)

pub digit_high : (x : ℕ) → 10 ≤ x → digit x ≡ 55 + x
unfolding digit
digit_high x h = rw (le-ltb x 10 h)

pub digit_injective : (x y : ℕ) → digit x ≡ digit y → x ≡ y
digit_injective x y e =
    ⊎_elim
    (λ (a : x < 10). ⊎_elim (λ (b : y < 10). omega (arith, digit_low x a, digit_low y b)) (λ (b : 10 ≤ y). omega (arith, digit_low x a, digit_high y b)) (lt_or_ge y 10))
    (λ (a : 10 ≤ x). ⊎_elim (λ (b : y < 10). omega (arith, digit_high x a, digit_low y b)) (λ (b : 10 ≤ y). omega (arith, digit_high x a, digit_high y b)) (lt_or_ge y 10))
    (lt_or_ge x 10)

-- r is the value of digit c, and 16 or more where c is no digit
pub record Value (c r : ℕ) : Type 0 where
  pub is : r < 16 → c ≡ digit r
  pub none : 16 ≤ r → (x : ℕ) → x < 16 → c ≡ digit x → ⊥

pub value_low : (c : ℕ) → 48 ≤ c → c ≤ 57 → Value c (c - 48)
value_low c h k = record { is = λ l. omega (arith, digit_low (c - 48) (omega arith)); none = λ l x m e. omega arith }

pub value_high : (c : ℕ) → 65 ≤ c → c ≤ 70 → Value c (c - 55)
value_high c h k = record { is = λ l. omega (arith, digit_high (c - 55) (omega arith)); none = λ l x m e. omega arith }

-- the digits are 48 to 57 and 65 to 70
digit_range : (x : ℕ) → x < 16 → ((48 ≤ digit x) × (digit x ≤ 57)) ⊎ ((65 ≤ digit x) × (digit x ≤ 70))
digit_range x h =
    ⊎_elim (λ (a : x < 10). inl (let e = digit_low x a in (omega arith, omega arith))) (λ (a : 10 ≤ x). inr (let e = digit_high x a in (omega arith, omega arith))) (lt_or_ge x 10)

pub value_none : (c : ℕ) → (48 ≤ c → c ≤ 57 → ⊥) → (65 ≤ c → c ≤ 70 → ⊥) → Value c 16
value_none c f g = record {
  is = λ l. absurd (omega arith);
  none = λ l x m e. ⊎_elim (λ (d : (48 ≤ digit x) × (digit x ≤ 57)). f (omega arith) (omega arith)) (λ (d : (65 ≤ digit x) × (digit x ≤ 70)). g (omega arith) (omega arith)) (digit_range x m);
}

-- ---- the digits of bytes

pub hex_length : (b : List ℕ) → length (hex_of b) ≡ 2 * length b
unfolding hex_of
hex_length [] = refl
hex_length (x ∷ b) = let h = hex_length b in omega arith

pub hex_append : (a b : List ℕ) → hex_of (a ++ b) ≡ hex_of a ++ hex_of b
unfolding hex_of
hex_append [] b = refl
hex_append (x ∷ a) b = ap (λ (l : List ℕ). digit (x / 16) ∷ (digit (x % 16) ∷ l)) (hex_append a b)

pub hex_at_high : (b : List ℕ) (i : ℕ) → i < length b → get_or (hex_of b) (2 * i) 0 ≡ digit (byte_at b i / 16)
unfolding hex_of
hex_at_high [] i h = absurd (omega arith)
hex_at_high (x ∷ b) zero h = refl
hex_at_high (x ∷ b) (suc i) h = let e : 2 * suc i ≡ suc (suc (2 * i)) = omega arith in rw e (hex_at_high b i (omega arith))

pub hex_at_low : (b : List ℕ) (i : ℕ) → i < length b → get_or (hex_of b) (2 * i + 1) 0 ≡ digit (byte_at b i % 16)
unfolding hex_of
hex_at_low [] i h = absurd (omega arith)
hex_at_low (x ∷ b) zero h = refl
hex_at_low (x ∷ b) (suc i) h = let e : 2 * suc i + 1 ≡ suc (suc (2 * i + 1)) = omega arith in rw e (hex_at_low b i (omega arith))

abbrev pub AreBytes : List ℕ → Type 0
AreBytes b = (i : ℕ) → byte_at b i < 256

pub hex_injective : (a b : List ℕ) → hex_of a ≡ hex_of b → a ≡ b
unfolding hex_of
hex_injective [] [] e = refl
hex_injective [] (y ∷ b) e = let n : ◌≡◌ {A = ℕ} 0 1 = cc in absurd (omega arith)
hex_injective (x ∷ a) [] e = let n : ◌≡◌ {A = ℕ} 0 1 = cc in absurd (omega arith)
hex_injective (x ∷ a) (y ∷ b) e =
    let p : digit (x / 16) ≡ digit (y / 16) = cc in
    let q : digit (x % 16) ≡ digit (y % 16) = cc in
    let t : hex_of a ≡ hex_of b = cc in
    let u = digit_injective (x / 16) (y / 16) p in
    let v = digit_injective (x % 16) (y % 16) q in
    let z : x ≡ y = omega arith in
    let w = hex_injective a b t in
    λ i. z i ∷ w i
