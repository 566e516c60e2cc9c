-- The entry into a window: the least second that the two windows, the durations and the crossings allow; as a label, 86,401 where there is none.
use Rattle.std.specs.Prelude.{ℕ, ◌+◌, ◌-◌, ◌≤◌, ◌<◌, min, max, ◌≡◌, refl, Option, Some, None, List}
use Rattle.std.specs.Option.{unwrap_or}
use Rattle.std.proofs.Common.{ap, ⊎_elim, arith}
use Rattle.laws.specs.Order.{lt_or_ge}
use Rattle.rules.specs.declared.Row.{Row}
use Rattle.rules.specs.Rows.{Barred}

-- t is the least second of lo to hi at which the crossing from p to q is not barred
pub record ClearAt (rows : List Row) (q p lo hi t : ℕ) : Type 0 where
  pub from : lo ≤ t
  pub to : t ≤ hi
  pub clear : Barred rows p q t → ⊥
  pub low : (u : ℕ) → lo ≤ u → u ≤ hi → (Barred rows p q u → ⊥) → t ≤ u

-- and there may be none
abbrev pub FirstClear : List Row → ℕ → ℕ → ℕ → ℕ → Option ℕ → Type 0
FirstClear rows q p lo hi None = (u : ℕ) → lo ≤ u → u ≤ hi → (Barred rows p q u → ⊥) → ⊥
FirstClear rows q p lo hi (Some t) = ClearAt rows q p lo hi t

-- there is one answer
pub first_clear_same : (rows : List Row) (q p lo hi : ℕ) (r r' : Option ℕ) → FirstClear rows q p lo hi r → FirstClear rows q p lo hi r' → r ≡ r'
first_clear_same rows q p lo hi None None a b = refl
first_clear_same rows q p lo hi None (Some t) a b = absurd (a t b.from b.to b.clear)
first_clear_same rows q p lo hi (Some t) None a b = absurd (b t a.from a.to a.clear)
first_clear_same rows q p lo hi (Some t) (Some u) a b = let e : t ≡ u = omega (arith, b.low t a.from a.to a.clear, a.low u b.from b.to b.clear) in ap Some e

-- ---- the loop over seconds: each from lo to t - 1 is barred

pub record Passed (rows : List Row) (q p lo t : ℕ) : Type 0 where
  pub from : lo ≤ t
  pub all : (u : ℕ) → lo ≤ u → u < t → Barred rows p q u

-- ---- the entry into a window from .. to of duration d, by who may leave from `soonest` to `leave`

pub record Allowed (rows : List Row) (q p soonest leave d from to u : ℕ) : Type 0 where
  pub soon : soonest ≤ u
  pub left : u ≤ leave
  pub begun : from ≤ u
  pub fits : u + d ≤ to
  pub clear : Barred rows p q u → ⊥

pub record IsEntry (rows : List Row) (q p soonest leave d from to r : ℕ) : Type 0 where
  pub top : r ≤ 86401
  pub allowed : r < 86401 → Allowed rows q p soonest leave d from to r
  pub low : (u : ℕ) → Allowed rows q p soonest leave d from to u → r ≤ u

module _ {rows : List Row} {q p soonest leave d from to r : ℕ} (long : from + d ≤ to) (E : IsEntry rows q p soonest leave d from to r) where
  pub entry_first : to ≤ 86400 → (o : Option ℕ) × (unwrap_or o 86401 ≡ r) × FirstClear rows q p (max soonest from) (min leave (to - d)) o
  entry_first in-day = ⊎_elim
      (λ (h : r < 86401). let a = E.allowed h in (
        Some r,
        refl,
        record {
          from = omega (arith, a.soon, a.begun);
          to = omega (arith, a.left, a.fits);
          clear = a.clear;
          low = λ u a b c. E.low u (record { soon = omega arith; left = omega arith; begun = omega arith; fits = omega arith; clear = c });
        },
      ))
      (λ (h : 86401 ≤ r). (
        None,
        omega (arith, E.top),
        λ u a b c.
            absurd (omega (arith, E.low u (record { soon = omega arith; left = omega arith; begun = omega arith; fits = omega arith; clear = c }))),
      ))
      (lt_or_ge r 86401)

  -- a window that ends too soon, or starts too late, is not entered
  pub entry_past : to < soonest + d → r ≡ 86401
  entry_past h = ⊎_elim (λ (c : r < 86401). let a = E.allowed c in absurd (omega (arith, a.soon, a.fits))) (λ (c : 86401 ≤ r). omega (arith, E.top)) (lt_or_ge r 86401)

  pub entry_late : leave < from → r ≡ 86401
  entry_late h = ⊎_elim (λ (c : r < 86401). let a = E.allowed c in absurd (omega (arith, a.begun, a.left))) (λ (c : 86401 ≤ r). omega (arith, E.top)) (lt_or_ge r 86401)
