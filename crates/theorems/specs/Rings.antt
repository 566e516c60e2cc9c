-- Rings as closed walks: rows that do not bar each other hold none, and a crossing is barred by such rows exactly where it closes one with them.
use Rattle.std.specs.Prelude.{ℕ, zero, suc, ◌-◌, ◌<◌, ◌≡◌, refl, List, [], ◌∷◌, length, get_or}
use Rattle.std.proofs.Common.{ap, subst, ◌∙◌, ⊎_elim, arith}
use mathlib.Core.List.Memᴰ
use Rattle.rules.specs.declared.Row.{Row}
use Rattle.rules.specs.Rows.{Crossing, Leads, Barred, Ring}
use Rattle.rules.specs.Rows.Leads.{one, via}
use Rattle.rules.specs.RowLaws.{row_crossing, then, crossing_fewer, Over, split, row_or_others, row_once}
use Rattle.rules.specs.Book.{Unbarred}
use Rattle.keeping.specs.Unbarred.{no_return, closes}

-- the places of a way from a to b, behind its first
record Way (rows : List Row) (t a b : ℕ) : Type 0 where
  rest : List ℕ
  steps : (i : ℕ) → i < length rest → Crossing rows (get_or (a ∷ rest) i 0) (get_or rest i 0) t
  some : 0 < length rest
  ends : get_or rest (length rest - 1) 0 ≡ b

module _ {rows : List Row} {t : ℕ} where
  -- a walk leads from its first place to each later one
  walk_leads : (walk : List ℕ) → ((i : ℕ) → suc i < length walk → Crossing rows (get_or walk i 0) (get_or walk (suc i) 0) t)
      → (j : ℕ) → suc j < length walk → Leads rows t (get_or walk 0 0) (get_or walk (suc j) 0)
  walk_leads walk f zero h = one (f 0 h)
  walk_leads walk f (suc j) h = then (walk_leads walk f j (omega arith)) (one (f (suc j) h))

  ring_returns : {walk : List ℕ} → Ring rows t walk → Leads rows t (get_or walk 0 0) (get_or walk 0 0)
  ring_returns {walk} R =
      let j = length walk - 2 in
      let h : suc j < length walk = omega (arith, R.some) in
      let e : suc j ≡ length walk - 1 = omega (arith, R.some) in
      subst (Leads rows t (get_or walk 0 0)) (ap (λ (i : ℕ). get_or walk i 0) e ∙ R.closed) (walk_leads walk R.steps j h)

  pub no_ring : Unbarred rows → {walk : List ℕ} → Ring rows t walk → ⊥
  no_ring U {walk} R = no_return U t (get_or walk 0 0) (ring_returns R)

  way : {a b : ℕ} → Leads rows t a b → Way rows t a b
  way {a} {b} (one c) = record { rest = b ∷ []; steps = first; some = omega arith; ends = refl }
    where
      first : (i : ℕ) → i < 1 → Crossing rows (get_or (a ∷ b ∷ []) i 0) (get_or (b ∷ []) i 0) t
      first zero h = c
      first (suc i) h = absurd (omega arith)
  way {a} {b} (via {x = x} c l) = on (way l)
    where
      on : Way rows t x b → Way rows t a b
      on w = record { rest = x ∷ w.rest; steps = next; some = omega arith; ends = ap (λ (i : ℕ). get_or (x ∷ w.rest) i 0) last ∙ w.ends }
        where
          last : length (x ∷ w.rest) - 1 ≡ suc (length w.rest - 1)
          last = omega (arith, w.some)

          next : (i : ℕ) → i < length (x ∷ w.rest) → Crossing rows (get_or (a ∷ x ∷ w.rest) i 0) (get_or (x ∷ w.rest) i 0) t
          next zero h = c
          next (suc i) h = w.steps i (omega arith)

-- a row put to others
module _ (r : Row) (rows : List Row) (goes_on : r.next ≡ r.place → ⊥) where
  pub barred_ring : Barred rows r.place r.next r.exit → (walk : List ℕ) × Ring (r ∷ rows) r.exit walk
  barred_ring l = on (way l)
    where
      on : Way rows r.exit r.next r.place → (walk : List ℕ) × Ring (r ∷ rows) r.exit walk
      on w = (walk, record { some = omega arith; steps = steps; closed = ap (λ (i : ℕ). get_or walk i 0) last ∙ w.ends })
        where
          walk : List ℕ
          walk = r.place ∷ r.next ∷ w.rest

          last : length walk - 1 ≡ suc (suc (length w.rest - 1))
          last = omega (arith, w.some)

          steps : (i : ℕ) → suc i < length walk → Crossing (r ∷ rows) (get_or walk i 0) (get_or walk (suc i) 0) r.exit
          steps zero h = row_crossing r (Memᴰ.head refl) goes_on
          steps (suc i) h = crossing_fewer (λ x m. Memᴰ.tail m) (w.steps i (omega arith))

  pub ring_barred : Unbarred rows → {walk : List ℕ} → Ring (r ∷ rows) r.exit walk → Barred rows r.place r.next r.exit
  ring_barred U {walk} R = ⊎_elim (λ l. absurd (no_return U r.exit (get_or walk 0 0) l))
      (λ (o : Over rows (r ∷ []) r.exit (get_or walk 0 0) (get_or walk 0 0)). subst (λ (x : Row). Leads rows r.exit x.next x.place) (Memᴰ.eq_of_singleton o.added) (closes o))
      (split row_or_others row_once (ring_returns R))
