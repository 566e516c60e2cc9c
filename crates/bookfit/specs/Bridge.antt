-- The tests by index over the arrays are those of the rows that the arrays hold: a ticket's rows fit, join and end once exactly where they pass
-- chains' test.
use Rattle.std.specs.Prelude.{ℕ, ◌≤◌, ◌<◌, ◌≡◌, Bool, List}
use Rattle.std.proofs.Common.{sym, ap, subst, ◌∙◌, ⊎_elim, arith}
use Rattle.laws.specs.Order.{lt_or_ge}
use Rattle.laws.specs.Lists.{at}
use Rattle.rules.specs.declared.Row.{Row}
use Rattle.rules.specs.Map.{Yard}
use Rattle.flat.specs.Flat.{ticket_of, exit_of, next_value, row_of, rows_in, KeysRise}
use Rattle.flat.specs.Crossings.{row_of_lem, index_of}
use Rattle.chains.specs.Test.{Last, Successor, RowOk, Tested}
use Rattle.bookfit.specs.Join.{next_key_value, IsLast, Found, Joins, EndsOnce}
use Rattle.bookfit.specs.Rows.{Fits}
use Rattle.bookfit.specs.Keys.{same_key, key_next, next_parts, same_next, next_same}

-- two indices of which neither is below the other
meet : (i j : ℕ) → (i < j → ⊥) → (j < i → ⊥) → i ≡ j
meet i j f g = ⊎_elim (λ (h : i < j). absurd (f h)) (λ (h : j ≤ i). ⊎_elim (λ (k : j < i). absurd (g k)) (λ (k : i ≤ j). omega arith) (lt_or_ge j i)) (lt_or_ge i j)

-- row i fits, joins and ends its run once
abbrev pub RunOk : (n : ℕ) (dur : ℕ → ℕ) (link : ℕ → ℕ → Bool) (K X : ℕ → ℕ) (count i : ℕ) → Type 0
RunOk n dur link K X count i = Fits n dur link K X i × (Joins K X count i × EndsOnce K X i)

module _ (K X : List ℕ) (count : ℕ) where
  abbrev row : ℕ → Row
  row i = row_of (at K i) (at X i)

  module _ (Y : Yard) where
    abbrev Ok : ℕ → Type 0
    Ok i = RunOk Y.places Y.dur Y.link (at K) (at X) count i

    module _ (k : ℕ) (O : (i : ℕ) → i < count → ticket_of (at K i) ≡ k → Ok i) where
      row_ok : (i : ℕ) → i < count → ticket_of (at K i) ≡ k → RowOk Y (rows_in K X count) (row_of (at K i) (at X i))
      row_ok i h e = let o = (O i h e).0 in record {
        on_map = o.on_map;
        in_day = o.in_day;
        lasts = o.lasts;
        exact = o.exact;
        linked = o.linked;
        joined = λ ne. let f = (O i h e).1.0.found ne in let q = next_parts (at K i) (at X i) (at K f.at) (omega (arith, o.in_day)) f.is in
            record { row = row_of (at K f.at) (at X f.at); in_book = row_of_lem K X count f.at f.within; follows = record { place = q.0; entry = q.1; ticket = q.2 } };
      }

      -- of two rows with one successor the later is not alone, and of two last rows the later is second
      before_at : (i j : ℕ) → i < count → j < count → ticket_of (at K i) ≡ k → ticket_of (at K j) ≡ k → (IsLast (at K i) (at X i) → ⊥) → (IsLast (at K j) (at X j) → ⊥)
          → next_value (at X i) ≡ next_value (at X j) → exit_of (at X i) ≡ exit_of (at X j) → i ≡ j
      before_at i j h l d e a b p q =
          meet i j (λ c. (O j l e).1.0.alone b i c a (same_next (at K i) (at X i) (at K j) (at X j) p q (d ∙ sym e)))
          (λ c. (O i h d).1.0.alone a j c b (same_next (at K j) (at X j) (at K i) (at X i) (sym p) (sym q) (e ∙ sym d)))

      last_at : (i j : ℕ) → i < count → j < count → ticket_of (at K i) ≡ k → ticket_of (at K j) ≡ k → IsLast (at K i) (at X i) → IsLast (at K j) (at X j) → i ≡ j
      last_at i j h l d e a b =
          meet i j (λ c. (O j l e).1.1 (record { last = b; earlier = record { row = i; below = c; last = a; ticket = d ∙ sym e } }))
          (λ c. (O i h d).1.1 (record { last = a; earlier = record { row = j; below = c; last = b; ticket = e ∙ sym d } }))

      pub index_tested : Tested Y (rows_in K X count) k
      index_tested = record {
        each = λ r m e. let u = index_of K X count m in subst (RowOk Y (rows_in K X count)) u.2 (row_ok u.0 u.1 (ap (λ (x : Row). x.ticket) u.2 ∙ e));
        one_before = λ r s m n d e a b p q. let u = index_of K X count m in let v = index_of K X count n in
            sym u.2 ∙ ap row (before_at u.0 v.0 u.1 v.1 (ap (λ (x : Row). x.ticket) u.2 ∙ d) (ap (λ (x : Row). x.ticket) v.2 ∙ e)
            (λ z. a (subst Last u.2 z)) (λ z. b (subst Last v.2 z))
            (ap (λ (x : Row). x.next) u.2 ∙ p ∙ sym (ap (λ (x : Row). x.next) v.2))
            (ap (λ (x : Row). x.exit) u.2 ∙ q ∙ sym (ap (λ (x : Row). x.exit) v.2))) ∙ v.2;
        one_last = λ r s m n d e a b. let u = index_of K X count m in let v = index_of K X count n in
            sym u.2 ∙ ap row (last_at u.0 v.0 u.1 v.1 (ap (λ (x : Row). x.ticket) u.2 ∙ d) (ap (λ (x : Row). x.ticket) v.2 ∙ e)
            (subst Last (sym u.2) a) (subst Last (sym v.2) b)) ∙ v.2;
      }

    module _ (R : KeysRise K count) (in_day : (i : ℕ) → i < count → exit_of (at X i) < 16777216) {k : ℕ} (T : Tested Y (rows_in K X count) k) where
      apart : (i j : ℕ) → i < j → j < count → row i ≡ row j → ⊥
      apart i j h k e = omega (arith, R.rise i j h k, same_key (at K i) (at K j) (ap (λ (x : Row). x.place) e) (ap (λ (x : Row). x.entry) e) (ap (λ (x : Row). x.ticket) e))

      found_at : (i : ℕ) → Successor (rows_in K X count) (row_of (at K i) (at X i)) → Found (at K) count (next_key_value (at K i) (at X i))
      found_at i s = let u = index_of K X count s.in_book in record {
        at = u.0;
        within = u.1;
        is = key_next (at K i) (at X i) (at K u.0)
            (ap (λ (x : Row). x.place) u.2 ∙ s.follows.place) (ap (λ (x : Row). x.entry) u.2 ∙ s.follows.entry) (ap (λ (x : Row). x.ticket) u.2 ∙ s.follows.ticket);
      }

      pub tested_index : (i : ℕ) → i < count → ticket_of (at K i) ≡ k → Ok i
      tested_index i h e =
          let o = T.each (row i) (row_of_lem K X count i h) e in (
            record { on_map = o.on_map; in_day = o.in_day; lasts = o.lasts; exact = o.exact; linked = o.linked },
            (record { found = λ g. found_at i (o.joined g); alone = alone }, once),
          )
        where
          alone : (IsLast (at K i) (at X i) → ⊥) → (j : ℕ) → j < i → (IsLast (at K j) (at X j) → ⊥) → next_key_value (at K j) (at X j) ≡ next_key_value (at K i) (at X i) → ⊥
          alone b j c a q =
              let hj : j < count = omega arith in
              let s = next_same (at K j) (at X j) (at K i) (at X i) (in_day j hj) (in_day i h) q in
              apart j i c h (T.one_before (row j) (row i) (row_of_lem K X count j hj) (row_of_lem K X count i h) (s.2 ∙ e) e a b s.0 s.1)

          once : EndsOnce (at K) (at X) i
          once C =
              let j = C.earlier in
              let hj : j.row < count = omega (arith, j.below) in
              apart j.row i j.below h (T.one_last (row j.row) (row i) (row_of_lem K X count j.row hj) (row_of_lem K X count i h) (j.ticket ∙ e) e j.last C.last)
