-- Rows and crossings by index over the arrays.
use Rattle.std.specs.Prelude.{ℕ, ◌<◌, ◌≡◌}
use Rattle.std.proofs.Common.{sym, ap, subst, ◌∙◌, arith}
use mathlib.Core.List.{List, Memᴰ}
use Rattle.laws.specs.Lists.{at, mem_index, index_mem}
use Rattle.rules.specs.declared.Row.{Row}
use Rattle.rules.specs.Rows.{no_row, Crossing}
use Rattle.flat.specs.Flat.{rows_in, row_of, place_of, exit_of, next_value}
use Rattle.flat.specs.Laws.{rows_long, row_in}

-- row i goes from p to q at t
pub record GoesAt (K X : List ℕ) (p q t i : ℕ) : Type 0 where
  pub from : place_of (at K i) ≡ p
  pub to : next_value (at X i) ≡ q
  pub when : exit_of (at X i) ≡ t

module _ (K X : List ℕ) (n : ℕ) where
  pub row_of_lem : (i : ℕ) → i < n → Memᴰ (row_of (at K i) (at X i)) (rows_in K X n)
  row_of_lem i h = subst (λ (r : Row). Memᴰ r (rows_in K X n)) (row_in K X n i h) (index_mem no_row (rows_in K X n) i (omega (arith, rows_long K X n)))

  pub index_of : {r : Row} → Memᴰ r (rows_in K X n) → (i : ℕ) × (i < n) × (row_of (at K i) (at X i) ≡ r)
  index_of m =
      let x = mem_index no_row m in
      let h : x.0 < n = omega (arith, x.1, rows_long K X n) in
      (x.0, h, sym (row_in K X n x.0 h) ∙ x.2)

  module _ {p q t : ℕ} where
    pub goes_crossing : (p ≡ q → ⊥) → (i : ℕ) → i < n → GoesAt K X p q t i → Crossing (rows_in K X n) p q t
    goes_crossing ne i h g = record {
      row = row_of (at K i) (at X i);
      booked = row_of_lem i h;
      onward = λ e. ne (sym g.from ∙ sym e ∙ g.to);
      from = g.from;
      to = g.to;
      at = g.when;
    }

    pub crossing_goes : Crossing (rows_in K X n) p q t → (i : ℕ) × (i < n) × GoesAt K X p q t i
    crossing_goes c =
        let x = index_of c.booked in
        let e = x.2 in
        (x.0, x.1, record { from = ap (λ (r : Row). r.place) e ∙ c.from; to = ap (λ (r : Row). r.next) e ∙ c.to; when = ap (λ (r : Row). r.exit) e ∙ c.at })
