-- Things in order of place grow place by place: the next place's things come after all others.
use Rattle.std.specs.Prelude.{ℕ, zero, suc, ◌+◌, ◌≤◌, ◌<◌, ◌≡◌, List, length, set}
use Rattle.std.proofs.Common.{sym, ap, ◌∙◌, ⊎_elim, arith, get_or-set_same, get_or-set_other}
use Rattle.laws.specs.Order.{lt_or_ge}
use Rattle.laws.specs.Lists.{at}
use Rattle.flat.specs.Flat.{Grouped}

pub grouped_none : (place : ℕ → ℕ) (F : List ℕ) → 0 < length F → Grouped place (set F 0 0) 0 0
grouped_none place F h = record {
  begins = get_or-set_same F 0 0 0 h;
  ends = get_or-set_same F 0 0 0 h;
  up = λ p l. absurd (omega arith);
  of = λ p i l a b. absurd (omega arith);
}

-- no place's first thing is after a later place's
pub grouped_up : {place : ℕ → ℕ} {F : List ℕ} {n w : ℕ} → Grouped place F n w → (q m : ℕ) → q ≤ m → m ≤ n → at F q ≤ at F m
grouped_up {F = F} G q zero h l = let e : q ≡ 0 = omega arith in omega (arith, ap (at F) e)
grouped_up {F = F} G q (suc m) h l =
    let e : m + 1 ≡ suc m = omega arith in
    ⊎_elim (λ (k : q < suc m). omega (arith, grouped_up G q m (omega arith) (omega arith), G.up m (omega arith), ap (at F) e))
    (λ (k : suc m ≤ q). let z : q ≡ suc m = omega arith in omega (arith, ap (at F) z))
    (lt_or_ge q (suc m))

-- w .. r - 1 are of place p, and what was before stays
module _ {place place' : ℕ → ℕ} {F : List ℕ} {p w r : ℕ}
    (G : Grouped place F p w) (kept : (i : ℕ) → i < w → place' i ≡ place i) (new : (i : ℕ) → w ≤ i → i < r → place' i ≡ p) (more : w ≤ r) (fits : p + 1 < length F) where
  old : (q : ℕ) → q ≤ p → at (set F (p + 1) r) q ≡ at F q
  old q h = get_or-set_other F (p + 1) q r 0 (λ e. omega arith)

  last : at (set F (p + 1) r) (p + 1) ≡ r
  last = get_or-set_same F (p + 1) r 0 fits

  up : (q : ℕ) → q < p + 1 → at (set F (p + 1) r) q ≤ at (set F (p + 1) r) (q + 1)
  up q h =
      ⊎_elim (λ (l : q < p). omega (arith, old q (omega arith), old (q + 1) (omega arith), G.up q l))
      (λ (l : p ≤ q). let e : q ≡ p = omega arith in omega (arith, ap (at (set F (p + 1) r)) e, ap (λ k. at (set F (p + 1) r) (k + 1)) e, old p (omega arith), last, G.ends))
      (lt_or_ge q p)

  of : (q i : ℕ) → q < p + 1 → at (set F (p + 1) r) q ≤ i → i < at (set F (p + 1) r) (q + 1) → place' i ≡ q
  of q i h a b =
      ⊎_elim (λ (l : q < p).
      let x = old q (omega arith) in
      let y = old (q + 1) (omega arith) in
      kept i (omega (arith, grouped_up G (q + 1) p (omega arith) (omega arith), G.ends)) ∙ G.of q i l (omega arith) (omega arith))
      (λ (l : p ≤ q).
      let e : q ≡ p = omega arith in
      new i (omega (arith, ap (at (set F (p + 1) r)) e, old p (omega arith), G.ends)) (omega (arith, ap (λ k. at (set F (p + 1) r) (k + 1)) e, last)) ∙ sym e)
      (lt_or_ge q p)

  pub grouped_next : Grouped place' (set F (p + 1) r) (p + 1) r
  grouped_next = record { begins = old 0 (omega arith) ∙ G.begins; ends = last; up = up; of = of }
