-- What vetting says: the map breaks a rule, or something is wrong with the book on it, or both are sound and all free windows are known.
use Rattle.std.specs.Prelude.{ℕ, ◌≤◌, ◌≡◌, refl, Bool, true, false, Result, Ok, Err}
use Rattle.std.proofs.Common.{sym, ap, subst, ◌∙◌, arith}
use mathlib.Core.List.{List, Memᴰ}
use Rattle.laws.specs.Tests.{not_both}
use Rattle.rules.specs.declared.Row.{Row}
use Rattle.rules.specs.declared.Refusal.{Refusal}
use Rattle.rules.specs.declared.Refusal.TheVariants.{BadMap}
use Rattle.rules.specs.Map.{Yard}
use Rattle.rules.specs.Book.{WellFormed}
use Rattle.rules.specs.Gate.{Papers, BookGood, Checked}
use Rattle.rules.specs.Gate.Checked.{bad_map, bad_book, sound}
use Rattle.rules.specs.GateLaws.{checked, same_papers, checked_as}
use Rattle.rules.specs.Answer.{number, fault_row}
use Rattle.flat.specs.Flat.{papers_in, rows_in}
use Rattle.flat.specs.Laws.{rows_long}
use Rattle.lanes.specs.Yards.{YardRules, yard_rules}
use Rattle.chains.specs.Test.{RowOk}
use Rattle.chains.specs.Laws.{whole_tested}
use Rattle.lookup.specs.Booked.{Booked}
use Rattle.mapfit.specs.Fits.{MapFits}
use Rattle.bookfit.specs.Answer.{BookFits}
use Rattle.bookfit.specs.Answer.BookFits.{good, faulty}
use Rattle.search.specs.Lanes.{Lanes}

-- the rows of a well-formed book are what looking crossings up by place asks for: runs are whole, so that who goes on has a row where it goes
pub formed_booked : {Y : Yard} → YardRules Y → Y.places ≤ 256 → {rows : List Row} {t : ℕ} → WellFormed Y rows t → Booked rows
formed_booked {Y} R few {rows} W = record {
  rising = W.rising;
  on_map = λ r m. omega (arith, (tested r m).on_map);
  lasts = λ r m. omega (arith, (tested r m).lasts, R.long r.place);
  goes_in = λ r m g. let s = (tested r m).joined g in record { row = s.row; in_book = s.in_book; place = s.follows.place; entry = s.follows.entry };
  unbarred = W.exchange;
}
  where
    tested : (r : Row) → Memᴰ r rows → RowOk Y rows r
    tested r m = (whole_tested R (W.whole r m)).each r m refl

-- ---- the answer

-- papers refused by their number at their row, or sound with w windows, of which S w is known
abbrev pub Vetted : Papers → (ℕ → Type 0) → Result ℕ Refusal → Type 0
Vetted g S v = Checked g (λ n i. (x : Refusal) × (v ≡ Err x) × (number x ≡ n) × (fault_row x ≡ i)) ((w : ℕ) × (v ≡ Ok w) × S w)

-- the two answers to a caller: refused as vetting says, whatever it refuses by, or known to be sound
pub vetted_refused : {g : Papers} {S : ℕ → Type 0} {v : Result ℕ Refusal} {x : Refusal} {refused : ℕ → ℕ → Type 0} {rest : Type 0} → Vetted g S v → v ≡ Err x
    → ((n i : ℕ) → number x ≡ n → fault_row x ≡ i → refused n i) → Checked g refused rest
vetted_refused {g} {v = v} {x = x} {refused = refused} {rest = rest} d e f =
    checked_as (same_papers g) (λ n i _ p. named n i p.0 p.1 p.2 p.3) (λ _ _ s. none s.0 s.1) d
  where
    named : (n i : ℕ) (y : Refusal) → v ≡ Err y → number y ≡ n → fault_row y ≡ i → refused n i
    named n i y h p q = let z : y ≡ x = cc in f n i (sym (ap number z) ∙ p) (sym (ap fault_row z) ∙ q)

    none : (w : ℕ) → v ≡ Ok w → rest
    none w h = absurd (cc)

pub vetted_sound : {g : Papers} {S : ℕ → Type 0} {v : Result ℕ Refusal} {w : ℕ} → Vetted g S v → v ≡ Ok w → g.map_good × BookGood g × S w
vetted_sound {S = S} {v = v} {w = w} d e = checked (λ n i h p. absurd (apart p.0 p.1)) (λ M B s. (M, B, subst S (same s.0 s.1) s.2)) d
  where
    apart : (x : Refusal) → v ≡ Err x → ⊥
    apart x h = cc

    same : (u : ℕ) → v ≡ Ok u → u ≡ w
    same u h = cc

-- ---- how it is found

module _ {C D F T H L : List ℕ} {n k : ℕ} {b : Bool} (M : MapFits n k C D F T H L b) (K X : List ℕ) (count t : ℕ) (P S E I : List ℕ) where
  abbrev Given : Result ℕ Refusal → Type 0
  Given v = Vetted (papers_in C D F T n k K X count t) (Lanes C D F T H L n k (rows_in K X count) count P S E I) v

  pub vet_map : b ≡ false → Given (Err BadMap)
  vet_map e = bad_map (λ R. not_both (M.all R) e) (BadMap, refl, refl, refl)

  pub vet_book : b ≡ true → {r : Result ℕ Refusal} → BookFits C D n F T k K X count t r S E P I → Given r
  vet_book e (good w q h W windows by_place) =
      sound (M.kept e) W (
        w,
        q,
        record {
          rules = M.kept e;
          chained = M.chained e;
          few_rows = omega (arith, W.counted.few, rows_long K X count);
          booked = formed_booked (yard_rules (M.kept e)) (M.kept e).few W;
          windows = windows;
          by_place = by_place;
          few = omega arith;
        },
      )
  vet_book e (faulty x q Z) = bad_book (M.kept e) Z (x, q, refl, refl)
