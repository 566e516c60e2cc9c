-- 15, a place overfilled: room first fails at the first row that overfills its own place; as rows are in key order, at the second at which it enters.
use Rattle.std.specs.Prelude.{ℕ, ◌-◌, ◌≤◌, ◌<◌, ◌≡◌, refl, Bool, true, false, length, take}
use Rattle.std.proofs.Common.{sym, ap, subst, ◌∙◌, ⊎_elim, arith, get_or-take, length-take-le}
use mathlib.Core.List.{List, [], ◌∷◌, Memᴰ}
use Rattle.std.proofs.Math.Decide.{dec_le, dec_lt}
use Rattle.laws.specs.Order.{lt_or_ge}
use Rattle.laws.specs.Tests.{true_or_false}
use Rattle.laws.specs.Lists.{mem_index}
use Rattle.rules.specs.declared.Row.{Row}
use Rattle.rules.specs.declared.Place.{Place}
use Rattle.rules.specs.declared.Link.{Link}
use Rattle.rules.specs.Map.{Yard, yard_of, MapRules}
use Rattle.rules.specs.Rows.{Key, no_row, row_at, Less, Rising, covers, bit, load}
use Rattle.rules.specs.Rows.Less.{by_place, by_entry, by_ticket}
use Rattle.rules.specs.Book.{Room}
use Rattle.rules.specs.Fault.{FirstBad}
use Rattle.rules.specs.FaultLaws.{first_within, room_inherited}
use Rattle.lanes.specs.Stays.{bit_true, bit_false, covers_in, covers_out}
use Rattle.faults.specs.Decide.{as?, both?, some_below?}
use Rattle.faults.specs.First.{LostBy, FirstWrong, first_wrong, wrong_first}
use Rattle.faults.specs.Rows.{load_up_to}

-- at a second of row i's own stay its place holds more than it may, among rows 1 to i
pub record Overfills (Y : Yard) (rows : List Row) (i : ℕ) : Type 0 where
  pub at : ℕ
  pub on_map : (row_at rows (i - 1)).place < Y.places
  pub from : (row_at rows (i - 1)).entry ≤ at
  pub to : at < (row_at rows (i - 1)).exit
  pub over : Y.cap (row_at rows (i - 1)).place < load (take i rows) (row_at rows (i - 1)).place at

module _ (Y : Yard) (rows : List Row) where
  overfills? : (i : ℕ) → Dec (Overfills Y rows i)
  overfills? i = as?
      (both? (dec_lt r.place Y.places)
      (some_below? (λ t. both? (dec_le r.entry t) (dec_lt (Y.cap r.place) (load (take i rows) r.place t))) r.exit))
      (λ x. record { at = x.1.0; on_map = x.0; from = x.1.2.0; to = x.1.1; over = x.1.2.1 })
      (λ o. (o.on_map, (o.at, o.to, (o.from, o.over))))
    where
      r : Row
      r = row_at rows (i - 1)

  -- a place that row i does not hold at that second holds what it held before
  own_place : (i : ℕ) → 1 ≤ i → i ≤ length rows → Room Y (take (i - 1) rows) → (p t : ℕ) → p < Y.places → Y.cap p < load (take i rows) p t
      → ((row_at rows (i - 1)).place ≡ p) × Overfills Y rows i
  own_place i h k R p t l o = ⊎_elim
      (λ (c : covers r.place r.entry r.exit p t ≡ true).
      let x = covers_out r.place r.entry r.exit p t c in (
        x.0,
        record {
          at = t;
          on_map = subst (λ (q : ℕ). q < Y.places) (sym x.0) l;
          from = x.1;
          to = x.2;
          over = subst (λ (q : ℕ). Y.cap q < load (take i rows) q t) (sym x.0) o;
        },
      ))
      (λ (c : covers r.place r.entry r.exit p t ≡ false). absurd (omega (arith, load_up_to rows i h k p t, bit_false c, R p t l)))
      (true_or_false (covers r.place r.entry r.exit p t))
    where
      r : Row
      r = row_at rows (i - 1)

  lost_by_overfilling : LostBy (Room Y) rows (Overfills Y rows)
  lost_by_overfilling = record {
    wrong? = overfills?;
    keeps = λ i h k f R p t l. ⊎_elim
        (λ (o : Y.cap p < load (take i rows) p t). absurd (f (own_place i h k R p t l o).1))
        (λ (o : load (take i rows) p t ≤ Y.cap p). o)
        (lt_or_ge (Y.cap p) (load (take i rows) p t));
    loses = λ i h k w R. omega (arith, w.over, R (row_at rows (i - 1)).place w.at w.on_map);
  }

  -- room first fails at the first row that overfills its own place
  pub first_overfilling : {i : ℕ} → FirstBad (Room Y) rows i → FirstWrong (Overfills Y rows) rows i
  first_overfilling F = first_wrong (room_inherited Y) rows lost_by_overfilling F

  pub overfilling_first : {i : ℕ} → FirstWrong (Overfills Y rows) rows i → FirstBad (Room Y) rows i
  overfilling_first w = wrong_first (room_inherited Y) rows lost_by_overfilling w

  -- and no other place is overfilled there
  pub overfull_only : {i : ℕ} → FirstBad (Room Y) rows i → (p t : ℕ) → p < Y.places → Y.cap p < load (take i rows) p t → (row_at rows (i - 1)).place ≡ p
  overfull_only {i} F p t l o = (own_place i F.from (first_within rows F) F.good p t l o).0

-- ---- which rows it can name

-- no more rows hold a place than there are
load_few : (rows : List Row) (p t : ℕ) → load rows p t ≤ length rows
unfolding load
load_few [] p t = omega arith
load_few (r ∷ rows) p t = omega (arith, one (covers r.place r.entry r.exit p t), load_few rows p t)
  where
    one : (b : Bool) → bit b ≤ 1
    one true = omega arith
    one false = omega arith

-- only rows past as many as the place may hold
pub overfull_after : (Y : Yard) (rows : List Row) {i : ℕ} → FirstBad (Room Y) rows i → Y.cap (row_at rows (i - 1)).place < i
overfull_after Y rows {i} F =
    let w = first_overfilling Y rows F in
    omega (arith, w.wrong.over, load_few (take i rows) (row_at rows (i - 1)).place w.wrong.at, length-take-le i rows w.to)

-- on a map that keeps the rules, the second row at least
pub overfull_second : {ps : List Place} {ls : List Link} → MapRules ps ls → (rows : List Row) {i : ℕ} → FirstBad (Room (yard_of ps ls)) rows i → 2 ≤ i
overfull_second {ps} {ls} M rows {i} F =
    let w = first_overfilling (yard_of ps ls) rows F in
    omega (arith, overfull_after (yard_of ps ls) rows F, M.cap_from (row_at rows (i - 1)).place w.wrong.on_map)

-- ---- the second at which it shows

-- where no row at p enters after e, whatever holds p later holds it at e
load_at_entry : (rows : List Row) (p e t : ℕ) → e ≤ t → ((r : Row) → Memᴰ r rows → r.place ≡ p → r.entry ≤ e) → load rows p t ≤ load rows p e
unfolding load
load_at_entry [] p e t h f = omega arith
load_at_entry (r ∷ rows) p e t h f = omega (arith, held, load_at_entry rows p e t h (λ s m. f s (Memᴰ.tail m)))
  where
    held : bit (covers r.place r.entry r.exit p t) ≤ bit (covers r.place r.entry r.exit p e)
    held = ⊎_elim
        (λ (c : covers r.place r.entry r.exit p t ≡ true).
        let x = covers_out r.place r.entry r.exit p t c in
        omega (arith, bit_true c, bit_true (covers_in r.place r.entry r.exit p e x.0 (f r (Memᴰ.head refl) x.0) (omega (arith, x.2)))))
        (λ (c : covers r.place r.entry r.exit p t ≡ false). omega (arith, bit_false c))
        (true_or_false (covers r.place r.entry r.exit p t))

-- in key order, the named row's place is overfilled when the row enters
pub overfull_entry : (Y : Yard) (rows : List Row) {i : ℕ} → Rising rows → FirstBad (Room Y) rows i
    → Y.cap (row_at rows (i - 1)).place < load (take i rows) (row_at rows (i - 1)).place (row_at rows (i - 1)).entry
overfull_entry Y rows {i} R F =
    omega (arith, w.wrong.over, load_at_entry (take i rows) here.place here.entry w.wrong.at w.wrong.from earlier)
  where
    here : Row
    here = row_at rows (i - 1)

    w : FirstWrong (Overfills Y rows) rows i
    w = first_overfilling Y rows F

    not_after : {a b : Key} → Less a b → a.place ≡ b.place → a.entry ≤ b.entry
    not_after (by_place h) e = absurd (omega arith)
    not_after (by_entry p h) e = omega arith
    not_after (by_ticket p q h) e = omega arith

    by_index : (j : ℕ) → j < i → (row_at rows j).place ≡ here.place → (row_at rows j).entry ≤ here.entry
    by_index j h e = ⊎_elim
        (λ (k : j < i - 1). not_after (R.rise j (i - 1) k (omega (arith, w.from, w.to))) e)
        (λ (k : i - 1 ≤ j). let same : i - 1 ≡ j = omega arith in subst (λ (x : ℕ). (row_at rows x).entry ≤ here.entry) same (omega arith))
        (lt_or_ge j (i - 1))

    earlier : (r : Row) → Memᴰ r (take i rows) → r.place ≡ here.place → r.entry ≤ here.entry
    earlier r m e =
        let u = mem_index no_row m in
        let l : u.0 < i = omega (arith, u.1, length-take-le i rows w.to) in
        let same : row_at rows u.0 ≡ r = sym (get_or-take i rows u.0 no_row l) ∙ u.2 in
        subst (λ (s : Row). s.entry ≤ here.entry) same (by_index u.0 l (ap (λ (s : Row). s.place) same ∙ e))
