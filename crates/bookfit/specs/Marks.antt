-- The loops over a book's rows: the successors of the rows met so far are marked, and so are the slots of the tickets whose last row was met. What a row is found
-- to be, and the marks after it.
use Rattle.std.specs.Prelude.{ℕ, ◌+◌, ◌%◌, ◌≤◌, ◌<◌, ◌≡◌, refl, Bool, true, false, not, List, length, get_or, set, eqb, Option, Some, None}
use Rattle.std.proofs.Common.{sym, ap, subst, ◌∙◌, ⊎_elim, arith, length-set, get_or-set_same, get_or-set_other, eq-eqb, eqb-true}
use Rattle.laws.specs.Order.{lt_or_ge, eq_or_ne}
use Rattle.laws.specs.Tests.{not_both}
use Rattle.flat.specs.Flat.{place_of, ticket_of, next_value}
use Rattle.lookup.specs.Keys.{Spot}
use Rattle.bookfit.specs.Each.{below_next}
use Rattle.bookfit.specs.Join.{next_key_value, IsLast, Joins, LastBelow, EndsOnce}
use Rattle.bookfit.specs.Least.{lesser, Lowest, lowest_start, lowest_keep, lowest_lower}

-- a mark set, and the marks that stood
mark_set : (tl : List Bool) (z x : ℕ) → z < length tl → x ≡ z → get_or (set tl z true) x false ≡ true
mark_set tl z x h e = ap (λ (u : ℕ). get_or (set tl z true) u false) e ∙ get_or-set_same tl z true false h

mark_kept : (tl : List Bool) (z x : ℕ) → z < length tl → get_or tl x false ≡ true → get_or (set tl z true) x false ≡ true
mark_kept tl z x h t = ⊎_elim (mark_set tl z x h) (λ (ne : x ≡ z → ⊥). get_or-set_other tl z x true false ne ∙ t) (eq_or_ne x z)

pub goes_by : (key tail : ℕ) (b : Bool) → b ≡ eqb (next_value tail) (place_of key) → not b ≡ true → IsLast key tail → ⊥
goes_by key tail b e f h = flat b f (e ∙ eq-eqb (next_value tail) (place_of key) h)
  where
    flat : (b : Bool) → not b ≡ true → b ≡ true → ⊥
    flat true f g = not_both f refl
    flat false f g = not_both g refl

pub last_by : (key tail : ℕ) (b : Bool) → b ≡ eqb (next_value tail) (place_of key) → not b ≡ false → IsLast key tail
last_by key tail b e f = eqb-true (next_value tail) (place_of key) (sym e ∙ flat b f)
  where
    flat : (b : Bool) → not b ≡ false → b ≡ true
    flat true f = refl
    flat false f = absurd (not_both refl f)

-- ---- successors taken so far

-- one of the first c rows goes on to key k
pub record TakenBelow (K X : ℕ → ℕ) (c k : ℕ) : Type 0 where
  pub row : ℕ
  pub below : row < c
  pub goes_on : IsLast (K row) (X row) → ⊥
  pub to : k ≡ next_key_value (K row) (X row)

-- the marks are the successors of the first c rows, and `low` is the least ticket of one that does not join, if one does not
pub record Takes (K X : ℕ → ℕ) (n c : ℕ) (tl : List Bool) (low : Option ℕ) : Type 0 where
  pub len : length tl ≡ 1024
  pub marks : (i : ℕ) → i < c → (IsLast (K i) (X i) → ⊥) → (j : ℕ) → j < n → K j ≡ next_key_value (K i) (X i) → get_or tl j false ≡ true
  pub marked : (j : ℕ) → j < n → get_or tl j false ≡ true → TakenBelow K X c (K j)
  pub lowest : Lowest (Joins K X n) K c low

taken_more : {K X : ℕ → ℕ} {c k : ℕ} → TakenBelow K X c k → TakenBelow K X (c + 1) k
taken_more t = record { row = t.row; below = omega (arith, t.below); goes_on = t.goes_on; to = t.to }

pub takes_start : (K X : ℕ → ℕ) (n : ℕ) (tl : List Bool) → length tl ≡ 1024 → ((j : ℕ) → j < n → get_or tl j false ≡ false) → Takes K X n 0 tl None
takes_start K X n tl e f = record { len = e; marks = λ i h. absurd (omega arith); marked = λ j h t. absurd (not_both t (f j h)); lowest = lowest_start (Joins K X n) K }

module _ (K X : ℕ → ℕ) (n c : ℕ) {tl : List Bool} {low : Option ℕ} (M : Takes K X n c tl low) where
  -- nothing new is taken
  stay : ((IsLast (K c) (X c) → ⊥) → (j : ℕ) → j < n → K j ≡ next_key_value (K c) (X c) → get_or tl j false ≡ true) → {r : Option ℕ} → Lowest (Joins K X n) K (c + 1) r
      → Takes K X n (c + 1) tl r
  stay f L = record {
    len = M.len;
    marks = below_next (λ i. (IsLast (K i) (X i) → ⊥) → (j : ℕ) → j < n → K j ≡ next_key_value (K i) (X i) → get_or tl j false ≡ true) c M.marks f;
    marked = λ j h t. taken_more (M.marked j h t);
    lowest = L;
  }

  pub takes_last : IsLast (K c) (X c) → Takes K X n (c + 1) tl low
  takes_last e = stay (λ g. absurd (g e)) (lowest_keep (Joins K X n) K M.lowest (record { found = λ g. absurd (g e); alone = λ g. absurd (g e) }))

  module _ (g : IsLast (K c) (X c) → ⊥) {r : Option ℕ} (s : Spot K n (next_key_value (K c) (X c)) r) where
    -- there is no successor
    pub takes_none : r ≡ None → Takes K X n (c + 1) tl (lesser low (Some (ticket_of (K c))))
    takes_none e = stay (λ _ i k q. absurd (s.nowhere e i k q)) (lowest_lower (Joins K X n) K M.lowest astray)
      where
        astray : Joins K X n c → ⊥
        astray J = let f = J.found g in s.nowhere e f.at f.within f.is

    module _ (mono : (a b : ℕ) → a < b → b < n → K a < K b) {j : ℕ} (e : r ≡ Some j) where
      within : j < n
      within = s.within j e

      one : (b : ℕ) → b < n → K b ≡ next_key_value (K c) (X c) → b ≡ j
      one b h q =
          let k = s.here j e in
          ⊎_elim (λ (l : b < j). absurd (omega (arith, mono b j l within)))
          (λ (l : j ≤ b). ⊎_elim (λ (k : j < b). absurd (omega (arith, mono j b k h))) (λ (k : b ≤ j). omega arith) (lt_or_ge j b))
          (lt_or_ge b j)

      -- a row before has taken it
      pub takes_taken : get_or tl j false ≡ true → Takes K X n (c + 1) tl (lesser low (Some (ticket_of (K c))))
      takes_taken t = stay (λ _ b h q. ap (λ (x : ℕ). get_or tl x false) (one b h q) ∙ t) (lowest_lower (Joins K X n) K M.lowest twice)
        where
          twice : Joins K X n c → ⊥
          twice J = let b = M.marked j within t in J.alone g b.row b.below b.goes_on (sym b.to ∙ s.here j e)

      pub takes_free : n ≤ 1024 → get_or tl j false ≡ false → Takes K X n (c + 1) (set tl j true) low
      takes_free few free = record {
        len = length-set tl j true ∙ M.len;
        marks = below_next (λ i. (IsLast (K i) (X i) → ⊥) → (b : ℕ) → b < n → K b ≡ next_key_value (K i) (X i) → get_or (set tl j true) b false ≡ true) c
            (λ i h a b k q. mark_kept tl j b (omega (arith, M.len, within)) (M.marks i h a b k q))
            (λ _ b k q. mark_set tl j b (omega (arith, M.len, within)) (one b k q));
        marked = λ b h t. ⊎_elim
            (λ (z : b ≡ j). record { row = c; below = omega arith; goes_on = g; to = ap K z ∙ s.here j e })
            (λ (ne : b ≡ j → ⊥). taken_more (M.marked b h (sym (get_or-set_other tl j b true false ne) ∙ t)))
            (eq_or_ne b j);
        lowest = lowest_keep (Joins K X n) K M.lowest (record {
          found = λ _. record { at = j; within = within; is = s.here j e };
          alone = λ _ i h a q. not_both (M.marks i h a j within (s.here j e ∙ sym q)) free;
        });
      }

pub spot_as : (K : ℕ → ℕ) (n k k' : ℕ) (r : Option ℕ) → k ≡ k' → Spot K n k r → Spot K n k' r
spot_as K n k k' r e s = subst (λ (x : ℕ). Spot K n x r) e s

-- ---- last rows met so far

-- each last row of the first c has marked its ticket's slot, and `low` is the least ticket of one that comes second, if one does
pub record Ended (K X : ℕ → ℕ) (c : ℕ) (tl : List Bool) (low : Option ℕ) : Type 0 where
  pub len : length tl ≡ 4096
  pub marks : (b : ℕ) → b < c → IsLast (K b) (X b) → get_or tl (K b % 4096) false ≡ true
  pub lowest : Lowest (EndsOnce K X) K c low

pub ended_start : (K X : ℕ → ℕ) (tl : List Bool) → length tl ≡ 4096 → Ended K X 0 tl None
ended_start K X tl e = record { len = e; marks = λ b h. absurd (omega arith); lowest = lowest_start (EndsOnce K X) K }

module _ (K X : ℕ → ℕ) (c : ℕ) {tl : List Bool} {low : Option ℕ} (M : Ended K X c tl low) where
  pub ended_not : (IsLast (K c) (X c) → ⊥) → Ended K X (c + 1) tl low
  ended_not g = record {
    len = M.len;
    marks = below_next (λ b. IsLast (K b) (X b) → get_or tl (K b % 4096) false ≡ true) c M.marks (λ e. absurd (g e));
    lowest = lowest_keep (EndsOnce K X) K M.lowest (λ C. g C.last);
  }

  module _ (e : IsLast (K c) (X c)) (z : ℕ) (ez : z ≡ K c % 4096) (hz : z < 4096) where
    marked : {r : Option ℕ} → Lowest (EndsOnce K X) K (c + 1) r → Ended K X (c + 1) (set tl z true) r
    marked L = record {
      len = length-set tl z true ∙ M.len;
      marks = below_next (λ b. IsLast (K b) (X b) → get_or (set tl z true) (K b % 4096) false ≡ true) c
          (λ b h l. mark_kept tl z (K b % 4096) (omega (arith, M.len)) (M.marks b h l)) (λ _. mark_set tl z (K c % 4096) (omega (arith, M.len)) (sym ez));
      lowest = L;
    }

    -- a row before was last
    pub ended_again : LastBelow K X c (ticket_of (K c)) → Ended K X (c + 1) (set tl z true) (lesser low (Some (ticket_of (K c))))
    ended_again b = marked (lowest_lower (EndsOnce K X) K M.lowest (λ f. f (record { last = e; earlier = b })))

    pub ended_first : (get_or tl z false ≡ true → LastBelow K X c (ticket_of (K c)) → ⊥) → Ended K X (c + 1) (set tl z true) low
    ended_first f = marked (lowest_keep (EndsOnce K X) K M.lowest (λ C. clash C.earlier))
      where
        coarse : (x : ℕ) → x % 4096 ≡ x % 16777216 % 4096
        coarse x = omega arith

        slots : (x y : ℕ) → x % 16777216 ≡ y % 16777216 → x % 4096 ≡ y % 4096
        slots x y t = coarse x ∙ ap (λ (u : ℕ). u % 4096) t ∙ sym (coarse y)

        clash : LastBelow K X c (ticket_of (K c)) → ⊥
        clash b = f (subst (λ (x : ℕ). get_or tl x false ≡ true) (slots (K b.row) (K c) b.ticket ∙ sym ez) (M.marks b.row b.below b.last)) b
