-- What the page call answers at each of its ends. Each refusal says that its own condition fails where those before it in the call's order
-- hold; so the ends are given in that order, each under what the ones before it have tested.
use Rattle.std.specs.Prelude.{ℕ, ◌≤◌, ◌<◌, ◌≡◌, refl, false, List, Ok, Err}
use Rattle.std.proofs.Common.{sym, inl, inr, arith}
use Rattle.rules.specs.declared.Row.{Row}
use Rattle.rules.specs.declared.Shown.{Shown}
use Rattle.rules.specs.declared.Refusal.{Refusal}
use Rattle.rules.specs.declared.Refusal.TheVariants.{ShortList, BadSize, BadCursor}
use Rattle.rules.specs.Map.{Yard}
use Rattle.rules.specs.Rows.{Key, first_key}
use Rattle.rules.specs.Bytes.{records}
use Rattle.rules.specs.Answer.{number, fault_row, PagingIs, PageSound, PageDone, CursorFits}

-- refused at the gate
pub page_refused : {was out : List ℕ} {x : Refusal} → was ≡ out → (n i : ℕ) → number x ≡ n → fault_row x ≡ i → PagingIs n i false first_key was out (Err x)
page_refused e n i h k = record { code = h; counts = k; says = refl; hands = refl; holds = sym e }

-- ---- where map and book are sound

module _ (rows : List Row) {Y : Yard} {size : ℕ} {k : Key} {was out : List ℕ} where
  pub page_bad_size : ((1 ≤ size) × (size ≤ 64) → ⊥) → was ≡ out → PageSound Y rows size k was out (Err BadSize)
  page_bad_size h e = inl (h, record { code = refl; counts = refl; says = refl; hands = refl; holds = sym e })

  module _ (from : 1 ≤ size) (to : size ≤ 64) where
    pub page_bad_cursor : (CursorFits Y k → ⊥) → was ≡ out → PageSound Y rows size k was out (Err BadCursor)
    page_bad_cursor h e = inr ((from, to), inl (h, record { code = refl; counts = refl; says = refl; hands = refl; holds = sym e }))

    module _ (fits : CursorFits Y k) where
      pub page_short : records was < size → was ≡ out → PageSound Y rows size k was out (Err ShortList)
      page_short h e = inr ((from, to), inr (fits, inl (λ g. omega arith, record { code = refl; counts = refl; says = refl; hands = refl; holds = sym e })))

      pub page_shown : {s : Shown} → size ≤ records was → PageDone rows size k was out (Ok s) → PageSound Y rows size k was out (Ok s)
      page_shown h d = inr ((from, to), inr (fits, inr (h, d)))
