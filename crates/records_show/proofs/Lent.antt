-- Eight records of which the first n were lent, and hold what the call left there.
use Rattle.std.proofs.Common.{ℕ, ◌≡◌, List, ◌++◌, length, take, drop, ap, sym, ◌∙◌}
use Rattle.std.proofs.Math.Seq.{take-append_seam}

pub take_lent : {A : Type 0} (n : ℕ) (xs out : List A) → length out ≡ n → take n (out ++ drop n xs) ≡ out
take_lent n xs out e = ap (λ (k : ℕ). take k (out ++ drop n xs)) (sym e) ∙ take-append_seam out (drop n xs)
