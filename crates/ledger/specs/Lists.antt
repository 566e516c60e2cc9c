-- Lists that are filled up to a size, by their elements: a part that moves up by one to let an element in, and one element more behind the others.
-- The filler is what `get_or` gives past the end, so that a filled list has the list's own elements.
use Rattle.std.specs.Prelude.{◌≡◌, refl, ◌⊎◌, List, [], ◌∷◌, ◌++◌, map, ℕ, zero, suc, ◌+◌, ◌-◌, ◌<◌, ◌≤◌, length, get_or, take, drop, set, replicate}
use Rattle.std.proofs.Common.{sym, ap, ◌∙◌, inl, inr, eq-or-lt_of_le, arith, length-set, length-append, length-take, length-drop, ext_get_or, get_or-set_same, get_or-set_other}
use Rattle.std.proofs.lemmas.List.{length-map, length-replicate, set_at}
use Rattle.std.proofs.Math.ListN.{get_or-eq_default}
use Rattle.std.proofs.Math.Seq.{append_snoc}
use Rattle.laws.specs.Order.{lt_or_ge}

-- what owning an array of structs tells is of the mapped list
pub unmapped : (X Y : Type 0) (f : X → Y) (l : List X) (n : ℕ) → length (map f l) ≡ n → length l ≡ n
unmapped X Y f l n e = sym (length-map l f) ∙ e

module _ {A : Type 0} (z : A) where
  fill_at : (n k : ℕ) → get_or (replicate n z) k z ≡ z
  fill_at zero k = refl
  fill_at (suc n) zero = refl
  fill_at (suc n) (suc k) = fill_at n k

  filled_at : (p : List A) (n k : ℕ) → get_or (p ++ replicate n z) k z ≡ get_or p k z
  filled_at [] n k = fill_at n k
  filled_at (x ∷ p) n zero = refl
  filled_at (x ∷ p) n (suc k) = filled_at p n k

  -- one element more behind the others
  pub filled_next : (size : ℕ) (p : List A) (a : A) → length p < size
      → set (p ++ replicate (size - length p) z) (length p) a ≡ (p ++ (a ∷ [])) ++ replicate (size - length (p ++ (a ∷ []))) z
  filled_next size p a h =
      let m : ℕ = size - (length p + 1) in
      let one : size - length p ≡ suc m = omega arith in
      let two : size - length (p ++ (a ∷ [])) ≡ m = simp length-append (omega arith) in
      rw (one, two) (set_at p z (replicate m z) a (length p) refl ∙ sym (append_snoc p a (replicate m z)))

  -- ---- an element put in at an index

  module _ (r : A) where
    abbrev pub put : List A → ℕ → List A
    put p at = take at p ++ (r ∷ drop at p)

    put_low : (p : List A) (at k : ℕ) → k < at → at ≤ length p → get_or (put p at) k z ≡ get_or p k z
    put_low p zero k h l = absurd (omega arith)
    put_low [] (suc at) k h l = absurd (omega arith)
    put_low (x ∷ p) (suc at) zero h l = refl
    put_low (x ∷ p) (suc at) (suc k) h l = put_low p at k (omega arith) (omega arith)

    put_at : (p : List A) (at : ℕ) → at ≤ length p → get_or (put p at) at z ≡ r
    put_at p zero l = refl
    put_at [] (suc at) l = absurd (omega arith)
    put_at (x ∷ p) (suc at) l = put_at p at (omega arith)

    put_high : (p : List A) (at k : ℕ) → at ≤ k → at ≤ length p → get_or (put p at) (suc k) z ≡ get_or p k z
    put_high p zero k h l = refl
    put_high [] (suc at) k h l = absurd (omega arith)
    put_high (x ∷ p) (suc at) zero h l = absurd (omega arith)
    put_high (x ∷ p) (suc at) (suc k) h l = put_high p at k (omega arith) (omega arith)

  -- m is l with the elements from j up to n moved up by one; the one at j stands there still
  pub record Moved (l m : List A) (n j : ℕ) : Type 0 where
    pub long : length m ≡ length l
    pub low : (k : ℕ) → k ≤ j → get_or m k z ≡ get_or l k z
    pub up : (k : ℕ) → j < k → k ≤ n → get_or m k z ≡ get_or l (k - 1) z
    pub high : (k : ℕ) → n < k → get_or m k z ≡ get_or l k z

  pub moved_more : (l m : List A) (n j : ℕ) → 0 < j → j ≤ n → n < length l → Moved l m n j → Moved l (set m j (get_or m (j - 1) z)) n (j - 1)
  moved_more l m n j p q r s = record {
    long = length-set m j (get_or m (j - 1) z) ∙ s.long;
    low = λ k h. get_or-set_other m j k (get_or m (j - 1) z) z (λ e. omega arith) ∙ s.low k (omega arith);
    up = λ k h i. at k h i (eq-or-lt_of_le (omega arith));
    high = λ k h. get_or-set_other m j k (get_or m (j - 1) z) z (λ e. omega arith) ∙ s.high k h;
  }
    where
      at : (k : ℕ) → j - 1 < k → k ≤ n → (j ≡ k) ⊎ (j < k) → get_or (set m j (get_or m (j - 1) z)) k z ≡ get_or l (k - 1) z
      at k h i (inl e) = rw (← e) (get_or-set_same m j (get_or m (j - 1) z) z (omega (arith, s.long)) ∙ s.low (j - 1) (omega arith))
      at k h i (inr g) = get_or-set_other m j k (get_or m (j - 1) z) z (λ e. omega arith) ∙ s.up k g i

  -- with the new element at its index: the list of p's elements and the new one, filled up
  pub moved_put : (r : A) (p l m : List A) (n at size : ℕ) → length p ≡ n → at ≤ n → n < size → length l ≡ size
      → l ≡ p ++ replicate (size - n) z → Moved l m n at
      → set m at r ≡ put r p at ++ replicate (size - (n + 1)) z
  moved_put r p l m n at size len le lt all clean s =
      ext_get_or z _ _
      (simp (length-set, length-append, length-take, length-drop, length-replicate) (omega (arith, s.long)))
      (λ k h. each k (lt_or_ge k at) (lt_or_ge at k))
    where
      from : (k : ℕ) → get_or l k z ≡ get_or p k z
      from k = ap (λ (x : List A). get_or x k z) clean ∙ filled_at p (size - n) k

      past : (k : ℕ) → at < k → (n < k) ⊎ (k ≤ n) → get_or m k z ≡ get_or p (k - 1) z
      past k h (inl i) =
          s.high k i ∙ from k ∙ get_or-eq_default p z (omega arith) ∙ sym (get_or-eq_default p z (omega arith))
      past k h (inr i) = s.up k h i ∙ from (k - 1)

      each : (k : ℕ) → (k < at) ⊎ (at ≤ k) → (at < k) ⊎ (k ≤ at)
          → get_or (set m at r) k z ≡ get_or (put r p at ++ replicate (size - (n + 1)) z) k z
      each k (inl h) d =
          get_or-set_other m at k r z (λ e. omega arith) ∙ s.low k (omega arith) ∙ from k
          ∙ sym (filled_at (put r p at) (size - (n + 1)) k ∙ put_low r p at k h (omega arith))
      each k (inr h) (inl g) =
          let one : suc (k - 1) ≡ k = omega arith in
          get_or-set_other m at k r z (λ e. omega arith) ∙ past k g (lt_or_ge n k)
          ∙ sym (filled_at (put r p at) (size - (n + 1)) k ∙ ap (λ (i : ℕ). get_or (put r p at) i z) (sym one) ∙ put_high r p at (k - 1) (omega arith) (omega arith))
      each k (inr h) (inr g) =
          let e : k ≡ at = omega arith in
          rw e (get_or-set_same m at r z (omega (arith, s.long)) ∙ sym (filled_at (put r p at) (size - (n + 1)) at ∙ put_at r p at (omega arith)))
