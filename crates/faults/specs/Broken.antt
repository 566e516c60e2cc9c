-- Whether a ticket's rows are a whole plan can be decided, as their test can. So all tickets' rows are, or there is a lowest ticket whose rows are not,
-- and of its rows a first.
use Rattle.std.specs.Prelude.{ℕ, suc, ◌+◌, ◌-◌, ◌≡◌, refl, ◌⊎◌, length}
use Rattle.std.proofs.Common.{ap, subst, ◌∙◌, inl, inr, arith}
use mathlib.Core.List.{List, Memᴰ}
use Rattle.std.proofs.Math.Decide.{ℕ_discrete, dec_le, dec_lt}
use Rattle.laws.specs.Order.{Least, NoneIn, least}
use Rattle.laws.specs.Lists.{mem_index}
use Rattle.rules.specs.declared.Row.{Row}
use Rattle.rules.specs.Limits.{day}
use Rattle.rules.specs.Map.{Yard}
use Rattle.rules.specs.Rows.{no_row, row_at}
use Rattle.rules.specs.Book.{Whole, AllWhole}
use Rattle.rules.specs.Fault.{BrokenAt}
use Rattle.lanes.specs.Yards.{YardRules}
use Rattle.chains.specs.Test.{Last, Follows, Successor, RowOk, Tested}
use Rattle.chains.specs.Laws.{tested_whole, whole_tested}
use Rattle.faults.specs.Decide.{as?, both?, implies?, not?, stable, true?, some?, every?, same_row?}

-- ---- the test decided

last? : (r : Row) → Dec (Last r)
last? r = ℕ_discrete r.next r.place

follows? : (r s : Row) → Dec (Follows r s)
follows? r s = as?
    (both? (ℕ_discrete s.place r.next) (both? (ℕ_discrete s.entry r.exit) (ℕ_discrete s.ticket r.ticket)))
    (λ x. record { place = x.0; entry = x.1.0; ticket = x.1.1 })
    (λ f. (f.place, (f.entry, f.ticket)))

successor? : (rows : List Row) (r : Row) → Dec (Successor rows r)
successor? rows r = as? (some? (follows? r) rows) (λ x. record { row = x.0; in_book = x.1; follows = x.2 }) (λ s. (s.row, s.in_book, s.follows))

row_ok? : (Y : Yard) (rows : List Row) (r : Row) → Dec (RowOk Y rows r)
row_ok? Y rows r = as?
    (both? (dec_lt r.place Y.places) (both? (dec_le r.exit day) (both? (dec_le (r.entry + Y.dur r.place) r.exit)
    (both? (implies? (last? r) (ℕ_discrete r.exit (r.entry + Y.dur r.place)))
    (both? (implies? (not? (last? r)) (true? (Y.link r.place r.next))) (implies? (not? (last? r)) (successor? rows r)))))))
    (λ x. record { on_map = x.0; in_day = x.1.0; lasts = x.1.1.0; exact = x.1.1.1.0; linked = x.1.1.1.1.0; joined = x.1.1.1.1.1 })
    (λ o. (o.on_map, (o.in_day, (o.lasts, (o.exact, (o.linked, o.joined))))))

tested? : (Y : Yard) (rows : List Row) (k : ℕ) → Dec (Tested Y rows k)
tested? Y rows k = as? (both? each? (both? one_before? one_last?))
    (λ x. record {
      each = x.0;
      one_before = λ r s m n d e. x.1.0 r m s n d e;
      one_last = λ r s m n d e. x.1.1 r m s n d e;
    })
    (λ T. (T.each, (λ r m s n d e. T.one_before r s m n d e, λ r m s n d e. T.one_last r s m n d e)))
  where
    mine? : (r : Row) → Dec (r.ticket ≡ k)
    mine? r = ℕ_discrete r.ticket k

    each? : Dec ((r : Row) → Memᴰ r rows → r.ticket ≡ k → RowOk Y rows r)
    each? = every? (λ r. implies? (mine? r) (row_ok? Y rows r)) rows

    one_before? : Dec ((r : Row) → Memᴰ r rows → (s : Row) → Memᴰ s rows → r.ticket ≡ k → s.ticket ≡ k → (Last r → ⊥) → (Last s → ⊥)
        → r.next ≡ s.next → r.exit ≡ s.exit → r ≡ s)
    one_before? = every? (λ r. every? (λ s. implies? (mine? r) (implies? (mine? s) (implies? (not? (last? r)) (implies? (not? (last? s))
        (implies? (ℕ_discrete r.next s.next) (implies? (ℕ_discrete r.exit s.exit) (same_row? r s))))))) rows) rows

    one_last? : Dec ((r : Row) → Memᴰ r rows → (s : Row) → Memᴰ s rows → r.ticket ≡ k → s.ticket ≡ k → Last r → Last s → r ≡ s)
    one_last? = every? (λ r. every? (λ s. implies? (mine? r) (implies? (mine? s) (implies? (last? r) (implies? (last? s) (same_row? r s))))) rows) rows

-- ---- all are whole, or one row is named

module _ {Y : Yard} (rules : YardRules Y) (rows : List Row) where
  -- the ticket of a row is whole exactly where its rows pass the test
  pub whole? : (r : Row) → Memᴰ r rows → Dec (Whole Y rows r.ticket)
  whole? r m = as? (tested? Y rows r.ticket) (λ T. tested_whole rules T r m refl) (λ W. whole_tested rules W)

  -- a ticket of some row, whose rows fail the test
  abbrev Fails : ℕ → Type 0
  Fails k = ((r : Row) × Memᴰ r rows × (r.ticket ≡ k)) × (Tested Y rows k → ⊥)

  fails? : (k : ℕ) → Dec (Fails k)
  fails? k = both? (some? (λ r. ℕ_discrete r.ticket k) rows) (not? (tested? Y rows k))

  -- the first row of a ticket that some row has
  first_row : (k : ℕ) → (r : Row) × Memᴰ r rows × (r.ticket ≡ k) → Least (λ i. (row_at rows i).ticket ≡ k) 0 (length rows)
  first_row k x = go (least Here (λ i. ℕ_discrete (row_at rows i).ticket k) 0 (length rows) (omega arith))
    where
      Here : ℕ → Type 0
      Here i = (row_at rows i).ticket ≡ k

      go : Least Here 0 (length rows) ⊎ NoneIn Here 0 (length rows) → Least Here 0 (length rows)
      go (inl l) = l
      go (inr f) = let u = mem_index no_row x.1 in absurd (f u.0 (omega arith) u.1 (ap (λ (r : Row). r.ticket) u.2 ∙ x.2))

  broken_at : (k : ℕ) → Least Fails 0 (suc k) → (i : ℕ) × BrokenAt Y rows i
  broken_at k l = (
    suc f.at,
    record {
      from = omega arith;
      to = omega (arith, f.to);
      broken = λ W. l.holds.1 (whole_tested rules (subst (Whole Y rows) has W));
      lower = λ r m h. stable (whole? r m) (λ g. l.before r.ticket (omega arith) (omega (arith, has)) ((r, m, refl), λ T. g (tested_whole rules T r m refl)));
      first = λ j h e. f.before j (omega arith) (omega arith) (e ∙ has);
    },
  )
    where
      f : Least (λ i. (row_at rows i).ticket ≡ l.at) 0 (length rows)
      f = first_row l.at l.holds.0

      has : (row_at rows (suc f.at - 1)).ticket ≡ l.at
      has = subst (λ (i : ℕ). (row_at rows i).ticket ≡ l.at) (omega arith) f.holds

pub whole_or_broken : {Y : Yard} → YardRules Y → (rows : List Row) → AllWhole Y rows ⊎ ((i : ℕ) × BrokenAt Y rows i)
whole_or_broken {Y} rules rows = go (some? (λ r. not? (tested? Y rows r.ticket)) rows)
  where
    lowest : (x : Row) → Fails rules rows x.ticket
        → Least (Fails rules rows) 0 (suc x.ticket) ⊎ NoneIn (Fails rules rows) 0 (suc x.ticket) → (i : ℕ) × BrokenAt Y rows i
    lowest x b (inl l) = broken_at rules rows x.ticket l
    lowest x b (inr f) = absurd (f x.ticket (omega arith) (omega arith) b)

    go : Dec ((r : Row) × Memᴰ r rows × (Tested Y rows r.ticket → ⊥)) → AllWhole Y rows ⊎ ((i : ℕ) × BrokenAt Y rows i)
    go (no f) = inl (λ r m. tested_whole rules (stable (tested? Y rows r.ticket) (λ g. f (r, m, g))) r m refl)
    go (yes x) = inr (lowest x.0 ((x.0, x.1, refl), x.2) (least (Fails rules rows) (fails? rules rows) 0 (suc x.0.ticket) (omega arith)))
