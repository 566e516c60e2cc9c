-- Tests and facts: what a Bool's value says.
use Rattle.std.specs.Prelude.{ℕ, ◌≡◌, refl, ◌⊎◌, Bool, true, false, ◌&&◌, ◌||◌}
use Rattle.std.proofs.Common.{inl, inr, arith}
use Rattle.std.proofs.lemmas.Bool.{false≢true}

-- b is true exactly where A holds
abbrev pub Decides : Bool → Type 0 → Type 0
Decides b A = (b ≡ true → A) × (A → b ≡ true)

pub true_or_false : (b : Bool) → (b ≡ true) ⊎ (b ≡ false)
true_or_false true = inl refl
true_or_false false = inr refl

pub not_both : {b : Bool} → b ≡ true → b ≡ false → ⊥
not_both s t = let z : ◌≡◌ {A = ℕ} 0 1 = cc in omega arith

pub and_in : {a b : Bool} → a ≡ true → b ≡ true → (a && b) ≡ true
and_in {a} {b} s t = rw (s, t)

pub and_l : (a b : Bool) → (a && b) ≡ true → a ≡ true
and_l true b t = refl
and_l false b t = t

pub and_r : (a b : Bool) → (a && b) ≡ true → b ≡ true
and_r true b t = t
and_r false b t = absurd (false≢true t)

pub or_out : (a b : Bool) → (a || b) ≡ true → (a ≡ true) ⊎ (b ≡ true)
or_out true b t = inl refl
or_out false b t = inr t

pub or_l : {a : Bool} (b : Bool) → a ≡ true → (a || b) ≡ true
or_l b s = rw s

pub or_r : (a : Bool) {b : Bool} → b ≡ true → (a || b) ≡ true
or_r true t = refl
or_r false t = t
