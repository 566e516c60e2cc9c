-- Laws of the answers' numbers: a refusal is known by its number and the row that it names, and no refusal has number 0, beside which alone rows are counted.
use Rattle.std.specs.Prelude.{ℕ, zero, suc, ◌-◌, ◌≤◌, ◌<◌, ◌≡◌, refl, List, [], ◌∷◌, get_or}
use Rattle.std.proofs.Common.{sym, ap, ap₂, ◌∙◌, ⊎_elim, arith}
use Rattle.laws.specs.Order.{lt_or_ge}
use Rattle.rules.specs.declared.Refusal.{Refusal}
use Rattle.rules.specs.declared.Refusal.TheVariants.{BadMap, BadBook, OffMap, OffDay, NoPlan, ShortList, FullBook, NoTickets, UnknownTicket, BadSize, BadCursor, BadFrame, KeysFall, BrokenRun, Overfull, Barred}
use Rattle.rules.specs.Answer.{number, fault_row, rows_done}

-- the refusals in the table's order, those that name a row with row i
abbrev table : ℕ → List Refusal
table i =
    BadMap
    ∷ (BadBook ∷ (OffMap ∷ (OffDay ∷ (NoPlan ∷ (ShortList ∷ (FullBook ∷ (NoTickets ∷ (UnknownTicket ∷ (BadSize ∷ (BadCursor ∷ (BadFrame
    ∷ (KeysFall i ∷ (BrokenRun i ∷ (Overfull i ∷ (Barred i ∷ [])))))))))))))))

-- the refusal that a number of the table and a row name
abbrev refusal_of : ℕ → ℕ → Refusal
refusal_of n i = get_or (table i) (n - 1) BadMap

refusal_told : (r : Refusal) → refusal_of (number r) (fault_row r) ≡ r
refusal_told BadMap = refl
refusal_told BadBook = refl
refusal_told OffMap = refl
refusal_told OffDay = refl
refusal_told NoPlan = refl
refusal_told ShortList = refl
refusal_told FullBook = refl
refusal_told NoTickets = refl
refusal_told UnknownTicket = refl
refusal_told BadSize = refl
refusal_told BadCursor = refl
refusal_told BadFrame = refl
refusal_told (KeysFall i) = refl
refusal_told (BrokenRun i) = refl
refusal_told (Overfull i) = refl
refusal_told (Barred i) = refl

pub refusal_same : (r r' : Refusal) → number r ≡ number r' → fault_row r ≡ fault_row r' → r ≡ r'
refusal_same r r' n i = sym (refusal_told r) ∙ ap₂ refusal_of n i ∙ refusal_told r'

-- number 0 would name the table's first, whose number is 1
pub number_positive : (r : Refusal) → 0 < number r
number_positive r =
    ⊎_elim (λ (h : 0 < number r). h)
    (λ (h : number r ≤ 0).
    let z : number r ≡ 0 = omega arith in
    absurd (omega (arith, ap number (sym (refusal_told r) ∙ ap (λ (n : ℕ). refusal_of n (fault_row r)) z))))
    (lt_or_ge 0 (number r))

pub none_done : (n c : ℕ) → 0 < n → rows_done n c ≡ 0
none_done zero c h = absurd (omega arith)
none_done (suc n) c h = refl
