-- Laws of rows: rows with the same numbers are one row; ways of booked crossings one after the other; fewer rows bar no more; and what more rows add.
use Rattle.std.specs.Prelude.{ℕ, ◌≡◌, refl, ◌⊎◌}
use Rattle.std.proofs.Common.{sym, ap, subst, ◌∙◌, inl, inr, ⊎_elim}
use mathlib.Core.List.Memᴰ
use mathlib.Core.List.{List, [], ◌∷◌, Memᴰ}
use Rattle.rules.specs.declared.Row.{Row}
use Rattle.rules.specs.Rows.{Crossing, Leads, Barred}
use Rattle.rules.specs.Rows.Leads.{one, via}

pub row_eq : {a b : Row} → a.place ≡ b.place → a.entry ≡ b.entry → a.ticket ≡ b.ticket → a.exit ≡ b.exit → a.next ≡ b.next → a ≡ b
row_eq p e t x n = λ i. record { place = p i; entry = e i; ticket = t i; exit = x i; next = n i }

-- ---- ways

-- a row that goes on is a crossing
pub row_crossing : {rows : List Row} (r : Row) → Memᴰ r rows → (r.next ≡ r.place → ⊥) → Crossing rows r.place r.next r.exit
row_crossing r m ne = record { row = r; booked = m; onward = ne; from = refl; to = refl; at = refl }

pub crossing_apart : {rows : List Row} {p q t : ℕ} → Crossing rows p q t → p ≡ q → ⊥
crossing_apart c e = c.onward (c.to ∙ sym e ∙ sym c.from)

-- what bars a crossing bars its row
pub bars_row : {rows : List Row} {p q t : ℕ} (c : Crossing rows p q t) → Barred rows p q t → Barred rows c.row.place c.row.next c.row.exit
bars_row {rows} {p} {q} {t} c l =
    subst (λ (u : ℕ). Leads rows u c.row.next c.row.place) (sym c.at)
    (subst (λ (u : ℕ). Leads rows t c.row.next u) (sym c.from) (subst (λ (u : ℕ). Leads rows t u p) (sym c.to) l))

-- a is b, or booked crossings lead from a to b
abbrev pub Reaches : List Row → ℕ → ℕ → ℕ → Type 0
Reaches rows t a b = (a ≡ b) ⊎ Leads rows t a b

pub then : {rows : List Row} {t p x q : ℕ} → Leads rows t p x → Leads rows t x q → Leads rows t p q
then (one c) m = via c m
then (via c l) m = via c (then l m)

-- places that booked crossings never lead out of
pub leads_into : {rows : List Row} {t : ℕ} (P : ℕ → Type 0) → ((a b : ℕ) → P a → Crossing rows a b t → P b) → {p q : ℕ} → P p → Leads rows t p q → P q
leads_into P step {p} {q} h (one c) = step p q h c
leads_into P step {p} {q} h (via {x = x} c l) = leads_into P step (step p x h c) l

-- a way's first step, and its last
pub first_step : {rows : List Row} {t p q : ℕ} → Leads rows t p q → (x : ℕ) × Crossing rows p x t
first_step {q = q} (one c) = (q, c)
first_step (via {x = x} c l) = (x, c)

pub last_step : {rows : List Row} {t p q : ℕ} → Leads rows t p q → (x : ℕ) × Reaches rows t p x × Crossing rows x q t
last_step {p = p} (one c) = (p, inl refl, c)
last_step {rows} {t} {p} {q} (via {x = y} c l) = on (last_step l)
  where
    on : (x : ℕ) × Reaches rows t y x × Crossing rows x q t → (x : ℕ) × Reaches rows t p x × Crossing rows x q t
    on r = (r.0, inr (⊎_elim (λ (e : y ≡ r.0). subst (Leads rows t p) e (one c)) (λ (m : Leads rows t y r.0). via c m) r.1), r.2)

-- ---- fewer rows lead no further, and so bar no more

module _ {few rows : List Row} (f : (r : Row) → Memᴰ r few → Memᴰ r rows) where
  pub crossing_fewer : {p q t : ℕ} → Crossing few p q t → Crossing rows p q t
  crossing_fewer c = record { row = c.row; booked = f c.row c.booked; onward = c.onward; from = c.from; to = c.to; at = c.at }

  pub leads_fewer : {t p q : ℕ} → Leads few t p q → Leads rows t p q
  leads_fewer (one c) = one (crossing_fewer c)
  leads_fewer (via c l) = via (crossing_fewer c) (leads_fewer l)

-- ---- what rows add that cross at most once a second: a way among old and added ones is a way among the old, or goes over one added crossing
-- once, and what comes before and after it is a way among the old

-- rows of which at most one goes on at a second
abbrev pub Once : List Row → Type 0
Once these = (r s : Row) → Memᴰ r these → Memᴰ s these → (r.next ≡ r.place → ⊥) → (s.next ≡ s.place → ⊥) → r.exit ≡ s.exit → r ≡ s

-- a way over one of these rows
pub record Over (old these : List Row) (t a b : ℕ) : Type 0 where
  pub row : Row
  pub added : Memᴰ row these
  pub onward : row.next ≡ row.place → ⊥
  pub when : row.exit ≡ t
  pub before : Reaches old t a row.place
  pub after : Reaches old t row.next b

module _ {old these new : List Row} (from : (r : Row) → Memᴰ r new → Memᴰ r old ⊎ Memᴰ r these) (once : Once these) where
  side : {t p q : ℕ} → Crossing new p q t → Crossing old p q t ⊎ Crossing these p q t
  side c = ⊎_elim
      (λ (m : Memᴰ c.row old). inl (record { row = c.row; booked = m; onward = c.onward; from = c.from; to = c.to; at = c.at }))
      (λ (m : Memᴰ c.row these). inr (record { row = c.row; booked = m; onward = c.onward; from = c.from; to = c.to; at = c.at }))
      (from c.row c.booked)

  -- the added crossing is the way's first step
  start : {t p x b : ℕ} → Crossing these p x t → Reaches old t x b → Over old these t p b
  start {t} {b = b} c r = record {
    row = c.row;
    added = c.booked;
    onward = c.onward;
    when = c.at;
    before = inl (sym c.from);
    after = subst (λ (u : ℕ). Reaches old t u b) (sym c.to) r;
  }

  -- an old crossing comes before it
  front : {t p x b : ℕ} → Crossing old p x t → Reaches old t x b → Leads old t p b
  front {t} {p} c (inl e) = subst (Leads old t p) e (one c)
  front c (inr l) = via c l

  pub split : {t a b : ℕ} → Leads new t a b → Leads old t a b ⊎ Over old these t a b
  split {t} {a} {b} (one c) = ⊎_elim (λ (d : Crossing old a b t). inl (one d)) (λ (d : Crossing these a b t). inr (start d (inl refl))) (side c)
  split {t} {a} {b} (via {x = x} c l) = go (side c) (split l)
    where
      go : Crossing old a x t ⊎ Crossing these a x t → Leads old t x b ⊎ Over old these t x b → Leads old t a b ⊎ Over old these t a b
      go (inl d) (inl m) = inl (via d m)
      go (inl d) (inr o) = inr (record { row = o.row; added = o.added; onward = o.onward; when = o.when; before = inr (front d o.before); after = o.after })
      go (inr d) (inl m) = inr (start d (inr m))
      go (inr d) (inr o) =
          let e = once d.row o.row d.booked o.added d.onward o.onward (d.at ∙ sym o.when) in
          inr (record { row = o.row; added = o.added; onward = o.onward; when = o.when; before = inl (sym d.from ∙ ap (λ (r : Row). r.place) e); after = o.after })

-- one row put before others
pub row_or_others : {r : Row} {rows : List Row} (x : Row) → Memᴰ x (r ∷ rows) → Memᴰ x rows ⊎ Memᴰ x (r ∷ [])
row_or_others {r} {rows} x m = ⊎_elim (λ (e : x ≡ r). inr (Memᴰ.head e)) (λ (d : Memᴰ x rows). inl d) (Memᴰ.cases_cons m)

pub row_once : {r : Row} → Once (r ∷ [])
row_once x y m n a b e = Memᴰ.eq_of_singleton m ∙ sym (Memᴰ.eq_of_singleton n)
