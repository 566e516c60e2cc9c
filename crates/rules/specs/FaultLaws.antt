-- Laws of the row at which a check fails: a check that every prefix inherits fails at one first row or at none, and so do rising keys, room and the exchange
-- rule; the first row of the lowest broken ticket is one row.
use Rattle.std.specs.Prelude.{ℕ, zero, suc, ◌-◌, ◌≤◌, ◌<◌, ◌≡◌, length, take}
use Rattle.std.proofs.Common.{sym, subst, ◌∙◌, ⊎_elim, arith, length-take, get_or-take, take_all, take-take}
use mathlib.Core.List.Memᴰ
use mathlib.Core.List.{List, [], ◌∷◌, Memᴰ}
use Rattle.std.proofs.Math.Nat.{min-le_left, min-le_right}
use Rattle.laws.specs.Order.{lt_or_ge}
use Rattle.laws.specs.Lists.{index_mem}
use Rattle.rules.specs.declared.Row.{Row}
use Rattle.rules.specs.Map.{Yard}
use Rattle.rules.specs.Rows.{no_row, row_at, Rising, load}
use Rattle.rules.specs.RowLaws.{leads_fewer}
use Rattle.rules.specs.Book.{AllWhole, Room, Unbarred}
use Rattle.rules.specs.Fault.{FirstBad, BrokenAt}

-- ---- the first row at which P fails

-- P holds of no rows, and with a list of each of its prefixes
pub record Inherited (P : List Row → Type 0) : Type 0 where
  pub none : P []
  pub shorter : (rows : List Row) (n : ℕ) → P rows → P (take n rows)

-- it is a row of the list
pub first_within : {P : List Row → Type 0} (rows : List Row) {i : ℕ} → FirstBad P rows i → i ≤ length rows
first_within {P} rows {i} F =
    ⊎_elim
    (λ (h : length rows < i). absurd (F.bad (subst P (take_all (i - 1) rows (omega arith) ∙ sym (take_all i rows (omega arith))) F.good)))
    (λ (h : i ≤ length rows). h)
    (lt_or_ge (length rows) i)

module _ {P : List Row → Type 0} (I : Inherited P) (rows : List Row) where
  pub prefix_down : (m n : ℕ) → m ≤ n → P (take n rows) → P (take m rows)
  prefix_down m n h p = subst P (take-take m n rows h) (I.shorter (take n rows) m p)

  pub first_breaks : {i : ℕ} → FirstBad P rows i → P rows → ⊥
  first_breaks {i} F p = F.bad (I.shorter rows i p)

  not_below : {i j : ℕ} → FirstBad P rows i → FirstBad P rows j → i < j → ⊥
  not_below {i} {j} F G h = F.bad (prefix_down i (j - 1) (omega arith) G.good)

  pub first_unique : {i j : ℕ} → FirstBad P rows i → FirstBad P rows j → i ≡ j
  first_unique {i} {j} F G =
      ⊎_elim
      (λ (h : i < j). absurd (not_below F G h))
      (λ (h : j ≤ i). ⊎_elim (λ (k : j < i). absurd (not_below G F k)) (λ (k : i ≤ j). omega arith) (lt_or_ge j i))
      (lt_or_ge i j)

-- ---- what every prefix inherits

pub mem_take : {x : Row} (n : ℕ) (rows : List Row) → Memᴰ x (take n rows) → Memᴰ x rows
mem_take zero rows m = absurd (Memᴰ.not-nil m)
mem_take (suc n) [] m = absurd (Memᴰ.not-nil m)
mem_take {x} (suc n) (r ∷ rows) m =
    ⊎_elim (λ (e : x ≡ r). Memᴰ.head e) (λ (d : Memᴰ x (take n rows)). Memᴰ.tail (mem_take n rows d)) (Memᴰ.cases_cons m)

load_take : (n : ℕ) (rows : List Row) (p t : ℕ) → load (take n rows) p t ≤ load rows p t
unfolding load
load_take zero rows p t = omega arith
load_take (suc n) [] p t = omega arith
load_take (suc n) (r ∷ rows) p t = omega (arith, load_take n rows p t)

pub rising_inherited : Inherited Rising
rising_inherited = record {
  none = record { rise = λ i j h k. absurd (omega arith) };
  shorter = λ rows n R. record {
    rise = λ i j h k.
        let l = length-take n rows in
        let a = min-le_left n (length rows) in
        let b = min-le_right n (length rows) in
        let hj : j < n = omega arith in
        let hi : i < n = omega arith in
        rw (get_or-take n rows i no_row hi, get_or-take n rows j no_row hj) (R.rise i j h (omega arith));
  };
}

pub room_inherited : (Y : Yard) → Inherited (Room Y)
unfolding load
room_inherited Y = record { none = none; shorter = λ rows n R p t h. omega (arith, load_take n rows p t, R p t h) }
  where
    none : Room Y []
    none p t h = omega arith

pub unbarred_inherited : Inherited Unbarred
unbarred_inherited = record {
  none = λ r m. absurd (Memᴰ.not-nil m);
  shorter = λ rows n U r m g b. U r (mem_take n rows m) g (leads_fewer (λ s d. mem_take n rows d) b);
}

-- ---- the first row of the lowest broken ticket

module _ {Y : Yard} {rows : List Row} where
  member : {i : ℕ} → BrokenAt Y rows i → Memᴰ (row_at rows (i - 1)) rows
  member {i} B = index_mem no_row rows (i - 1) (omega (arith, B.from, B.to))

  pub broken_breaks : {i : ℕ} → BrokenAt Y rows i → AllWhole Y rows → ⊥
  broken_breaks {i} B W = B.broken (W (row_at rows (i - 1)) (member B))

  -- neither ticket is lower, so they are one, and neither row comes before the other
  pub broken_unique : {i j : ℕ} → BrokenAt Y rows i → BrokenAt Y rows j → i ≡ j
  broken_unique {i} {j} A B =
      ⊎_elim (λ (h : i < j). absurd (later A B h)) (λ (h : j ≤ i). ⊎_elim (λ (k : j < i). absurd (later B A k)) (λ (k : i ≤ j). omega arith) (lt_or_ge j i)) (lt_or_ge i j)
    where
      ticket : ℕ → ℕ
      ticket i = (row_at rows (i - 1)).ticket

      not_lower : {i j : ℕ} → BrokenAt Y rows i → BrokenAt Y rows j → ticket i < ticket j → ⊥
      not_lower {i} A B h = A.broken (B.lower (row_at rows (i - 1)) (member A) h)

      same : {i j : ℕ} → BrokenAt Y rows i → BrokenAt Y rows j → ticket i ≡ ticket j
      same {i} {j} A B = ⊎_elim (λ (h : ticket i < ticket j). absurd (not_lower A B h))
          (λ (h : ticket j ≤ ticket i). ⊎_elim (λ (k : ticket j < ticket i). absurd (not_lower B A k)) (λ (k : ticket i ≤ ticket j). omega arith) (lt_or_ge (ticket j) (ticket i)))
          (lt_or_ge (ticket i) (ticket j))

      later : {i j : ℕ} → BrokenAt Y rows i → BrokenAt Y rows j → i < j → ⊥
      later {i} {j} A B h = B.first (i - 1) (omega (arith, A.from, B.from)) (same A B)
