-- The first row above a cursor among rows in key order. The test "above the cursor" answers no up to some row and yes from it on, since
-- the order of keys is transitive; so a search that halves the stretch between a no and a yes ends where the yes begins.
use Rattle.std.specs.Prelude.{ℕ, ◌≤◌, ◌<◌, ◌≡◌, Bool, true, false, not, List, length, get_or, take}
use Rattle.std.specs.List.Sorted.{IsPartitionedBy, IsPartitionPoint}
use Rattle.std.proofs.Common.{subst, ap, ◌∙◌, ⊎_elim, arith, get_or-take, length-take-le}
use Rattle.std.proofs.lemmas.List.{get_or_default}
use Rattle.std.proofs.lemmas.Bool.{not-true, not-false}
use Rattle.laws.specs.Order.{lt_or_ge}
use Rattle.laws.specs.Tests.{true_or_false, not_both}
use Rattle.laws.specs.Lists.{at}
use Rattle.rules.specs.declared.Row.{Row}
use Rattle.rules.specs.Rows.{Key, row_key, row_at, lessb}
use Rattle.flat.specs.Flat.{rows_in, KeysRise}
use Rattle.flat.specs.Laws.{rows_long, row_in}
use Rattle.keeping.specs.OrderLaws.{less_trans, less_lessb, lessb_less}
use Rattle.lookup.specs.Order.{key_is, less_key}

-- no row before r is above the key, and every row from r on is
pub record FirstAfter (rows : List Row) (k : Key) (r : ℕ) : Type 0 where
  pub within : r ≤ length rows
  pub before : (i : ℕ) → i < r → lessb k (row_key (row_at rows i)) ≡ false
  pub from : (i : ℕ) → r ≤ i → i < length rows → lessb k (row_key (row_at rows i)) ≡ true

-- row i of the arrays is above the key
abbrev pub above : List ℕ → Key → ℕ → Bool
above K k i = lessb k (key_is (at K i))

-- once a row is above the key, so are those after it
above_on : {K : List ℕ} {count : ℕ} → KeysRise K count → (k : Key) (i j : ℕ) → i ≤ j → j < count → above K k i ≡ true → above K k j ≡ true
above_on {K} R k i j h b t =
    ⊎_elim (λ (c : i < j). less_lessb (less_trans (lessb_less k (key_is (at K i)) t) (less_key (at K i) (at K j) (R.rise i j c b))))
    (λ (c : j ≤ i). let e : i ≡ j = omega arith in subst (λ (n : ℕ). above K k n ≡ true) e t)
    (lt_or_ge i j)

-- row by packed key: not above the key
abbrev pub passed : Key → ℕ → Bool
passed k x = not (lessb k (key_is x))

module _ (K : List ℕ) (count : ℕ) (long : count ≤ length K) where
  here : (i d : ℕ) → i < count → get_or (take count K) i d ≡ at K i
  here i d h = get_or-take count K i d h ∙ get_or_default K i d 0 (omega arith)

  -- none that is passed comes after one that is not
  pub passed_first : KeysRise K count → (k : Key) → IsPartitionedBy (passed k) (take count K)
  passed_first R k i j d h l t =
      let g : j < count = omega (arith, length-take-le count K long) in
      let t' : passed k (at K j) ≡ true = rw (here j d g) at t in
      rw (here i d (omega arith))
      (⊎_elim (λ (y : above K k i ≡ true). absurd (not_both t' (ap not (above_on R k i j h g y)))) (λ (n : above K k i ≡ false). ap not n) (true_or_false (above K k i)))

  -- the point between those passed and those above is the first row above
  pub first_found : (X : List ℕ) (k : Key) (r : ℕ) → r ≤ length (take count K) → IsPartitionPoint (λ y. passed k y ≡ true) (λ y. passed k y ≡ false) (take count K) r → FirstAfter (rows_in K X count) k r
  first_found X k r h P =
      let c = rows_long K X count in
      let m = length-take-le count K long in
      record {
        within = omega arith;
        before = λ i l.
            let g : i < count = omega arith in
            rw (row_in K X count i g) (not-true _ (rw (here i 0 g) at (P.0 i 0 (omega arith) l)));
        from = λ i l u.
            let g : i < count = omega arith in
            rw (row_in K X count i g) (not-false _ (rw (here i 0 g) at (P.1 i 0 l (omega arith))));
      }
