-- What is asked of each row by itself, over packed keys: its numbers are in their ranges, and it keeps to the map, to the day,
-- to its place's duration and to the links. Rows rise where neighbours do.
use Rattle.std.specs.Prelude.{ℕ, ◌+◌, ◌-◌, ◌≤◌, ◌<◌, ◌≡◌, Bool, true, Option, Some, None, Result, MatchResult, List}
use Rattle.std.proofs.Common.{ap, ⊎_elim, arith}
use Rattle.laws.specs.Order.{lt_or_ge, eq_or_ne}
use Rattle.laws.specs.Lists.{at}
use Rattle.rules.specs.declared.Row.{Row}
use Rattle.rules.specs.declared.Refusal.{Refusal}
use Rattle.rules.specs.declared.Refusal.TheVariants.{BadBook}
use Rattle.rules.specs.Limits.{day}
use Rattle.flat.specs.Flat.{ticket_of, row_of, KeysRise}
use Rattle.chains.specs.Test.{Last}
use Rattle.bookfit.specs.Each.{Each, each_start, each_next}
use Rattle.bookfit.specs.Least.{lesser, Lowest, lowest_start, lowest_keep, lowest_lower}

-- ---- rising keys

pub rise_start : (K : List ℕ) → KeysRise K 1
rise_start K = record { rise = λ i j h k. absurd (omega arith) }

pub rise_next : (K : List ℕ) (c : ℕ) → 1 ≤ c → KeysRise K c → at K (c - 1) < at K c → KeysRise K (c + 1)
rise_next K c some R h = record { rise = λ i j a b. ⊎_elim (λ (d : j < c). R.rise i j a d) (λ (d : c ≤ j). top i j a (omega arith)) (lt_or_ge j c) }
  where
    top : (i j : ℕ) → i < j → j ≡ c → at K i < at K j
    top i j a e =
        let q = ap (at K) e in
        ⊎_elim (λ (d : i < c - 1). omega (arith, R.rise i (c - 1) d (omega arith)))
        (λ (d : c - 1 ≤ i). let z : i ≡ c - 1 = omega arith in omega (arith, ap (at K) z))
        (lt_or_ge i (c - 1))

pub rise_to : (K : List ℕ) (c n : ℕ) → n ≤ c → KeysRise K c → KeysRise K n
rise_to K c n h R = record { rise = λ i j a b. R.rise i j a (omega arith) }

pub rise_breaks : (K : List ℕ) (c n : ℕ) → 1 ≤ c → c < n → at K c ≤ at K (c - 1) → KeysRise K n → ⊥
rise_breaks K c n some h a R = omega (arith, R.rise (c - 1) c (omega arith) h)

-- ---- ranges

pub record TicketFits (key t : ℕ) : Type 0 where
  pub from : 1 ≤ ticket_of key
  pub to : ticket_of key < t

-- on a map of n places
pub record InRange (n : ℕ) (r : Row) : Type 0 where
  pub place : r.place < n
  pub next : r.next < n
  pub entry : r.entry ≤ day
  pub exit : r.exit ≤ day

abbrev pub AllInRange : ℕ → ℕ → (ℕ → ℕ) → (ℕ → ℕ) → ℕ → Type 0
AllInRange n t K X count = Each (λ i. TicketFits (K i) t × InRange n (row_of (K i) (X i))) count

-- ---- rows that fit

pub record RowFits (n : ℕ) (dur : ℕ → ℕ) (link : ℕ → ℕ → Bool) (r : Row) : Type 0 where
  pub on_map : r.place < n
  pub in_day : r.exit ≤ day
  pub lasts : r.entry + dur r.place ≤ r.exit
  pub exact : Last r → r.exit ≡ r.entry + dur r.place
  pub linked : (Last r → ⊥) → link r.place r.next ≡ true

abbrev pub Fits : ℕ → (ℕ → ℕ) → (ℕ → ℕ → Bool) → (ℕ → ℕ) → (ℕ → ℕ) → ℕ → Type 0
Fits n dur link K X i = RowFits n dur link (row_of (K i) (X i))

-- links lead to places of the map
abbrev pub OnMap : ℕ → (ℕ → ℕ → Bool) → Type 0
OnMap n link = (p q : ℕ) → link p q ≡ true → q < n

-- a row that fits is in range
pub fits_in_range : {n : ℕ} {dur : ℕ → ℕ} {link : ℕ → ℕ → Bool} {r : Row} → OnMap n link → RowFits n dur link r → InRange n r
fits_in_range {r = r} O f = record {
  place = f.on_map;
  next = ⊎_elim (λ (e : Last r). omega (arith, f.on_map)) (λ (g : Last r → ⊥). O r.place r.next (f.linked g)) (eq_or_ne r.next r.place);
  entry = omega (arith, f.lasts, f.in_day);
  exit = f.in_day;
}

-- the first c rows are in range, and `low` is the least ticket of one that does not fit, if one does not
pub record UnfitTo (n : ℕ) (dur : ℕ → ℕ) (link : ℕ → ℕ → Bool) (K X : ℕ → ℕ) (t c : ℕ) (low : Option ℕ) : Type 0 where
  pub within : AllInRange n t K X c
  pub lowest : Lowest (Fits n dur link K X) K c low

-- what the look at each row by itself says: all are in range, with the least ticket of one that does not fit, or one is not
abbrev pub Unfit : (n : ℕ) (dur : ℕ → ℕ) (link : ℕ → ℕ → Bool) (K X : ℕ → ℕ) (t count : ℕ) → Result (Option ℕ) Refusal → Type 0
Unfit n dur link K X t count r = MatchResult r (UnfitTo n dur link K X t count) (λ x. (x ≡ BadBook) × (AllInRange n t K X count → ⊥))

module _ (n : ℕ) (dur : ℕ → ℕ) (link : ℕ → ℕ → Bool) (K X : ℕ → ℕ) (t : ℕ) where
  pub unfit_start : UnfitTo n dur link K X t 0 None
  unfit_start = record { within = each_start (λ i. TicketFits (K i) t × InRange n (row_of (K i) (X i))); lowest = lowest_start (Fits n dur link K X) K }

  module _ {c : ℕ} {low : Option ℕ} (U : UnfitTo n dur link K X t c low) where
    pub unfit_fits : OnMap n link → TicketFits (K c) t → Fits n dur link K X c → UnfitTo n dur link K X t (c + 1) low
    unfit_fits O T f = record {
      within = each_next (λ i. TicketFits (K i) t × InRange n (row_of (K i) (X i))) c U.within (T, fits_in_range O f);
      lowest = lowest_keep (Fits n dur link K X) K U.lowest f;
    }

    pub unfit_lower : TicketFits (K c) t → InRange n (row_of (K c) (X c)) → (Fits n dur link K X c → ⊥)
        → UnfitTo n dur link K X t (c + 1) (lesser low (Some (ticket_of (K c))))
    unfit_lower T I f = record {
      within = each_next (λ i. TicketFits (K i) t × InRange n (row_of (K i) (X i))) c U.within (T, I);
      lowest = lowest_lower (Fits n dur link K X) K U.lowest f;
    }

  pub out_of_range : {c count : ℕ} → c < count → (TicketFits (K c) t × InRange n (row_of (K c) (X c)) → ⊥) → AllInRange n t K X count → ⊥
  out_of_range {c} h f A = f (A.each c h)
