-- Two lists of eight records: the first i are equal, and where all eight are, so are the lists.
use Rattle.std.specs.Prelude.{ℕ, ◌+◌, ◌≤◌, ◌<◌, ◌≡◌, List, length}
use Rattle.std.proofs.Common.{ap, ◌∙◌, sym, ⊎_elim, arith, ext_get_or}
use Rattle.laws.specs.Order.{lt_or_ge}
use Rattle.rules.specs.declared.Row.{Row}
use Rattle.rules.specs.Rows.{no_row, row_at}

pub record EqualTo (i : ℕ) (a b : List Row) : Type 0 where
  pub within : i ≤ 8
  pub each : (k : ℕ) → k < i → row_at a k ≡ row_at b k

pub equal_none : (a b : List Row) → EqualTo 0 a b
equal_none a b = record { within = omega arith; each = λ k h. absurd (omega arith) }

pub equal_next : {i : ℕ} {a b : List Row} → EqualTo i a b → i < 8 → row_at a i ≡ row_at b i → EqualTo (i + 1) a b
equal_next {i} {a} {b} E h e = record {
  within = omega arith;
  each = λ k l. ⊎_elim (λ (c : k < i). E.each k c) (λ (c : i ≤ k). let q : k ≡ i = omega arith in ap (row_at a) q ∙ e ∙ ap (row_at b) (sym q)) (lt_or_ge k i);
}

pub equal_all : {i : ℕ} {a b : List Row} → EqualTo i a b → 8 ≤ i → length a ≡ 8 → length b ≡ 8 → a ≡ b
equal_all {i} {a} {b} E h la lb = ext_get_or no_row a b (la ∙ sym lb) (λ k l. E.each k (omega arith))
