-- Rising keys, room and the exchange rule can be decided of any rows. Every prefix inherits each of them, so that each holds of all rows or fails at a
-- first row: of the prefixes for which it fails, the shortest ends there.
use Rattle.std.specs.Prelude.{ℕ, suc, ◌+◌, ◌-◌, ◌≤◌, ◌<◌, ◌≡◌, refl, ◌⊎◌, true, List, [], ◌∷◌, length, take}
use Rattle.std.proofs.Common.{subst, inl, inr, ⊎_elim, arith}
use Rattle.std.proofs.Math.Decide.{ℕ_discrete, dec_le}
use Rattle.std.proofs.Math.Seq.{take-length}
use Rattle.laws.specs.Order.{lt_or_ge, Least, NoneIn, least}
use Rattle.laws.specs.Tests.{true_or_false}
use Rattle.rules.specs.declared.Row.{Row}
use Rattle.rules.specs.Map.{Yard}
use Rattle.rules.specs.Rows.{Key, row_key, row_at, Less, lessb, Rising, covers, bit, load, Barred}
use Rattle.rules.specs.RingLaws.{barredb, leadsb_leads, leads_leadsb}
use Rattle.rules.specs.Book.{Room, Unbarred}
use Rattle.rules.specs.Fault.{FirstBad}
use Rattle.rules.specs.FaultLaws.{Inherited, prefix_down, rising_inherited, room_inherited, unbarred_inherited}
use Rattle.lanes.specs.Stays.{bit_false, covers_out}
use Rattle.keeping.specs.OrderLaws.{less_lessb, lessb_less}
use Rattle.faults.specs.Decide.{as?, implies?, not?, stable, true?, below?, every?}

-- ---- decided

pub less? : (a b : Key) → Dec (Less a b)
less? a b = as? (true? (lessb a b)) (lessb_less a b) less_lessb

pub rising? : (rows : List Row) → Dec (Rising rows)
rising? rows = as?
    (below? (λ j. below? (λ i. less? (row_key (row_at rows i)) (row_key (row_at rows j))) j) (length rows))
    (λ f. record { rise = λ i j h k. f j k i h })
    (λ R j k i h. R.rise i j h k)

-- from this second on no row holds anything
abbrev ends : List Row → ℕ
ends [] = 0
ends (r ∷ rows) = r.exit + ends rows

empty_after : (rows : List Row) (p t : ℕ) → ends rows ≤ t → load rows p t ≡ 0
unfolding load
empty_after [] p t h = refl
empty_after (r ∷ rows) p t h = omega (arith, gone, empty_after rows p t (omega arith))
  where
    gone : bit (covers r.place r.entry r.exit p t) ≡ 0
    gone = ⊎_elim
        (λ (c : covers r.place r.entry r.exit p t ≡ true). absurd (omega (arith, (covers_out r.place r.entry r.exit p t c).2)))
        bit_false
        (true_or_false (covers r.place r.entry r.exit p t))

-- so that the seconds before it are enough
pub room? : (Y : Yard) (rows : List Row) → Dec (Room Y rows)
room? Y rows = as?
    (below? (λ p. below? (λ t. dec_le (load rows p t) (Y.cap p)) (ends rows)) Y.places)
    (λ f p t h. ⊎_elim (λ (k : t < ends rows). f p h t k) (λ (k : ends rows ≤ t). omega (arith, empty_after rows p t k)) (lt_or_ge t (ends rows)))
    (λ R p h t k. R p t h)

pub barred? : (rows : List Row) (p q t : ℕ) → Dec (Barred rows p q t)
barred? rows p q t = as? (true? (barredb rows p q t)) (leadsb_leads rows t q p) (leads_leadsb rows t q p)

pub unbarred? : (rows : List Row) → Dec (Unbarred rows)
unbarred? rows = every? (λ r. implies? (not? (ℕ_discrete r.next r.place)) (not? (barred? rows r.place r.next r.exit))) rows

-- ---- kept by all rows, or a first row at fault

module _ {P : List Row → Type 0} (I : Inherited P) (dec : (rows : List Row) → Dec (P rows)) (rows : List Row) where
  all_or_first : P rows ⊎ ((i : ℕ) × FirstBad P rows i)
  all_or_first = go (least Fails (λ n. not? (dec (take n rows))) 0 (suc (length rows)) (omega arith))
    where
      Fails : ℕ → Type 0
      Fails n = P (take n rows) → ⊥

      go : Least Fails 0 (suc (length rows)) ⊎ NoneIn Fails 0 (suc (length rows)) → P rows ⊎ ((i : ℕ) × FirstBad P rows i)
      go (inl l) = ⊎_elim
          (λ (h : l.at < 1). absurd (l.holds (prefix_down I rows l.at 0 (omega arith) I.none)))
          (λ (h : 1 ≤ l.at). inr (
            l.at,
            record {
              from = h;
              good = stable (dec (take (l.at - 1) rows)) (l.before (l.at - 1) (omega arith) (omega arith));
              bad = l.holds;
            },
          ))
          (lt_or_ge l.at 1)
      go (inr f) = inl (subst P (take-length rows) (stable (dec (take (length rows) rows)) (f (length rows) (omega arith) (omega arith))))

pub rising_or_first : (rows : List Row) → Rising rows ⊎ ((i : ℕ) × FirstBad Rising rows i)
rising_or_first rows = all_or_first rising_inherited rising? rows

pub room_or_first : (Y : Yard) (rows : List Row) → Room Y rows ⊎ ((i : ℕ) × FirstBad (Room Y) rows i)
room_or_first Y rows = all_or_first (room_inherited Y) (room? Y) rows

pub unbarred_or_first : (rows : List Row) → Unbarred rows ⊎ ((i : ℕ) × FirstBad Unbarred rows i)
unbarred_or_first rows = all_or_first unbarred_inherited unbarred? rows
