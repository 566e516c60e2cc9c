-- Whether booked crossings lead from one place to another, as a test that computes row after row: among more rows there is a way among the others,
-- or one over the first. So it can be decided whether a crossing is barred.
use Rattle.std.specs.Prelude.{ℕ, ◌≡◌, refl, ◌⊎◌, Bool, true, false, ◌&&◌, ◌||◌, not, List, [], ◌∷◌, eqb}
use Rattle.std.proofs.Common.{sym, ap, subst, inl, inr, ⊎_elim, eqb-true, eq-eqb, ne_eqb}
use mathlib.Core.List.Memᴰ
use Rattle.std.proofs.lemmas.Bool.{eqb-false, not-true}
use Rattle.laws.specs.Tests.{true_or_false, not_both, and_in, and_l, and_r, or_out, or_l, or_r}
use Rattle.rules.specs.declared.Row.{Row}
use Rattle.rules.specs.Rows.{Leads, Barred}
use Rattle.rules.specs.Rows.Leads.{one}
use Rattle.rules.specs.RowLaws.{row_crossing, then, last_step, leads_fewer, Reaches, Over, split, row_or_others, row_once}

-- a row goes on at t
abbrev goesb : Row → ℕ → Bool
goesb r t = eqb r.exit t && not (eqb r.next r.place)

unfoldable pub leadsb : List Row → ℕ → ℕ → ℕ → Bool
leadsb [] t a b = false
leadsb (r ∷ rows) t a b = leadsb rows t a b || (goesb r t && ((eqb a r.place || leadsb rows t a r.place) && (eqb r.next b || leadsb rows t r.next b)))

module _ (r : Row) (t : ℕ) where
  goes_exit : goesb r t ≡ true → r.exit ≡ t
  goes_exit e = eqb-true r.exit t (and_l (eqb r.exit t) (not (eqb r.next r.place)) e)

  goes_apart : goesb r t ≡ true → r.next ≡ r.place → ⊥
  goes_apart e = eqb-false r.next r.place (not-true (eqb r.next r.place) (and_r (eqb r.exit t) (not (eqb r.next r.place)) e))

  goes_in : r.exit ≡ t → (r.next ≡ r.place → ⊥) → goesb r t ≡ true
  goes_in e ne = and_in (eq-eqb r.exit t e) (ap not (ne_eqb r.next r.place ne))

-- a row in front of others: a way over it, and a way taken apart
module _ (r : Row) (rows : List Row) where
  more : {t a b : ℕ} → Leads rows t a b → Leads (r ∷ rows) t a b
  more l = leads_fewer (λ x m. Memᴰ.tail m) l

  over : (t : ℕ) {a b : ℕ} → goesb r t ≡ true → Reaches rows t a r.place → Reaches rows t r.next b → Leads (r ∷ rows) t a b
  over t {a} {b} e x y = end y (start x)
    where
      step : Leads (r ∷ rows) t r.place r.next
      step = subst (λ (u : ℕ). Leads (r ∷ rows) u r.place r.next) (goes_exit r t e) (one (row_crossing r (Memᴰ.head refl) (goes_apart r t e)))

      start : Reaches rows t a r.place → Leads (r ∷ rows) t a r.next
      start (inl f) = subst (λ (u : ℕ). Leads (r ∷ rows) t u r.next) (sym f) step
      start (inr l) = then (more l) step

      end : Reaches rows t r.next b → Leads (r ∷ rows) t a r.next → Leads (r ∷ rows) t a b
      end (inl f) l = subst (Leads (r ∷ rows) t a) f l
      end (inr m) l = then l (more m)

reach_in : {a b : ℕ} {L : Bool} {rows : List Row} {t : ℕ} → (Leads rows t a b → L ≡ true) → Reaches rows t a b → (eqb a b || L) ≡ true
reach_in {a} {b} {L} f (inl e) = or_l L (eq-eqb a b e)
reach_in {a} {b} f (inr l) = or_r (eqb a b) (f l)

reach_out : {a b : ℕ} {L : Bool} {rows : List Row} {t : ℕ} → (L ≡ true → Leads rows t a b) → (eqb a b || L) ≡ true → Reaches rows t a b
reach_out {a} {b} {L} {rows} {t} f h = ⊎_elim (λ (e : eqb a b ≡ true). inl (eqb-true a b e)) (λ (e : L ≡ true). inr (f e)) (or_out (eqb a b) L h)

pub leadsb_leads : (rows : List Row) (t a b : ℕ) → leadsb rows t a b ≡ true → Leads rows t a b
unfolding leadsb
leadsb_leads [] t a b e = absurd (not_both e refl)
leadsb_leads (r ∷ rows) t a b e = by (λ a b. leadsb_leads rows t a b) (or_out (leadsb rows t a b) (goesb r t && (A && B)) e)
  where
    A : Bool
    A = eqb a r.place || leadsb rows t a r.place

    B : Bool
    B = eqb r.next b || leadsb rows t r.next b

    by : ((a b : ℕ) → leadsb rows t a b ≡ true → Leads rows t a b) → (leadsb rows t a b ≡ true) ⊎ ((goesb r t && (A && B)) ≡ true) → Leads (r ∷ rows) t a b
    by ih (inl h) = more r rows (ih a b h)
    by ih (inr h) =
        let k = and_r (goesb r t) (A && B) h in
        over r rows t (and_l (goesb r t) (A && B) h) (reach_out (ih a r.place) (and_l A B k)) (reach_out (ih r.next b) (and_r A B k))

pub leads_leadsb : (rows : List Row) (t a b : ℕ) → Leads rows t a b → leadsb rows t a b ≡ true
unfolding leadsb
leads_leadsb [] t a b l = absurd (Memᴰ.not-nil (last_step l).2.booked)
leads_leadsb (r ∷ rows) t a b l = by (λ a b. leads_leadsb rows t a b) (split row_or_others row_once l)
  where
    rest : Bool
    rest = goesb r t && ((eqb a r.place || leadsb rows t a r.place) && (eqb r.next b || leadsb rows t r.next b))

    by : ((a b : ℕ) → Leads rows t a b → leadsb rows t a b ≡ true) → Leads rows t a b ⊎ Over rows (r ∷ []) t a b → (leadsb rows t a b || rest) ≡ true
    by ih (inl m) = or_l rest (ih a b m)
    by ih (inr o) =
        let e = Memᴰ.eq_of_singleton o.added in
        or_r (leadsb rows t a b) (and_in
        (subst (λ (x : Row). goesb x t ≡ true) e (goes_in o.row t o.when o.onward))
        (and_in (reach_in (ih a r.place) (subst (λ (x : Row). Reaches rows t a x.place) e o.before))
        (reach_in (ih r.next b) (subst (λ (x : Row). Reaches rows t x.next b) e o.after))))

-- whether the crossing from p to q at t is barred
abbrev pub barredb : List Row → ℕ → ℕ → ℕ → Bool
barredb rows p q t = leadsb rows t q p

module _ (rows : List Row) (p q t : ℕ) where
  pub unbarred : barredb rows p q t ≡ false → Barred rows p q t → ⊥
  unbarred e l = not_both (leads_leadsb rows t q p l) e

  pub unbarredb : (Barred rows p q t → ⊥) → barredb rows p q t ≡ false
  unbarredb f = ⊎_elim (λ (e : barredb rows p q t ≡ true). absurd (f (leadsb_leads rows t q p e))) (λ e. e) (true_or_false (barredb rows p q t))
