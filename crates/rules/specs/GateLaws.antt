-- Laws of the refusals' order: how an answer is taken apart, that two answers agree, and how one is carried over.
use Rattle.std.specs.Prelude.{ℕ, ◌≤◌, ◌<◌, ◌≡◌, refl, List, length}
use Rattle.std.proofs.Common.{sym, subst, ◌∙◌, inl, inr, arith}
use Rattle.rules.specs.declared.Row.{Row}
use Rattle.rules.specs.Map.{Yard}
use Rattle.rules.specs.Rows.{Rising}
use Rattle.rules.specs.Book.{AllWhole, Room, Unbarred, Formed}
use Rattle.rules.specs.Fault.{FirstBad, BrokenAt, Fault}
use Rattle.rules.specs.Fault.Fault.{miscounted, unrising, broken, overfull, barred}
use Rattle.rules.specs.FaultLaws.{first_within, first_breaks, first_unique, rising_inherited, room_inherited, unbarred_inherited, broken_breaks, broken_unique}
use Rattle.rules.specs.Gate.{Unless, Papers, BookGood, Checked}
use Rattle.rules.specs.Gate.Checked.{bad_map, bad_book, sound}

-- ---- one number

-- what a refusal gives, and what the rest gives
pub unless : {ok bad rest X : Type 0} → (bad → X) → (ok → rest → X) → Unless ok bad rest → X
unless f g (inl x) = f x.1
unless f g (inr y) = g y.0 y.1

-- where the condition is known to hold
pub past : {ok bad rest : Type 0} → ok → Unless ok bad rest → rest
past o (inl x) = absurd (x.0 o)
past o (inr y) = y.1

-- one answer for another
pub instead : {ok bad bad' rest rest' : Type 0} → (bad → bad') → (ok → rest → rest') → Unless ok bad rest → Unless ok bad' rest'
instead f g (inl x) = inl (x.0, f x.1)
instead f g (inr y) = inr (y.0, g y.0 y.1)

-- two answers are refused by this number both, or neither is
pub both : {ok bad bad' rest rest' X : Type 0} → (bad → bad' → X) → (ok → rest → rest' → X) → Unless ok bad rest → Unless ok bad' rest' → X
both f g (inl x) (inl y) = f x.1 y.1
both f g (inl x) (inr y) = absurd (x.0 y.0)
both f g (inr x) (inl y) = absurd (y.0 x.0)
both f g (inr x) (inr y) = g x.0 x.1 y.1

-- ---- what is wrong with a book

-- the checks in their order, each asked unless the one before it failed
abbrev InOrder : Type 0 → Yard → List Row → ℕ → ℕ → Type 0
InOrder counts Y rows n i =
    Unless counts ((n ≡ 2) × (i ≡ 0))
    (Unless (Rising rows) ((n ≡ 13) × FirstBad Rising rows i)
    (Unless (AllWhole Y rows) ((n ≡ 14) × BrokenAt Y rows i)
    (Unless (Room Y rows) ((n ≡ 15) × FirstBad (Room Y) rows i)
    (Unless (Unbarred rows) ((n ≡ 16) × FirstBad Unbarred rows i)
    ⊥))))

module _ {counts : Type 0} {Y : Yard} {rows : List Row} where
  in_order : {n i : ℕ} → Fault counts Y rows n i → InOrder counts Y rows n i
  in_order (miscounted f) = inl (f, (refl, refl))
  in_order (unrising c F) = inr (c, inl (first_breaks rising_inherited rows F, (refl, F)))
  in_order (broken c R B) = inr (c, inr (R, inl (broken_breaks B, (refl, B))))
  in_order (overfull c R W F) = inr (c, inr (R, inr (W, inl (first_breaks (room_inherited Y) rows F, (refl, F)))))
  in_order (barred c R W M F) = inr (c, inr (R, inr (W, inr (M, inl (first_breaks unbarred_inherited rows F, (refl, F))))))

  -- no second number or row
  pub fault_unique : {n i m j : ℕ} → Fault counts Y rows n i → Fault counts Y rows m j → (n ≡ m) × (i ≡ j)
  fault_unique A B =
      both (λ a b. (a.0 ∙ sym b.0, a.1 ∙ sym b.1))
      (λ _. both (λ a b. (a.0 ∙ sym b.0, first_unique rising_inherited rows a.1 b.1))
      (λ _. both (λ a b. (a.0 ∙ sym b.0, broken_unique a.1 b.1))
      (λ _. both (λ a b. (a.0 ∙ sym b.0, first_unique (room_inherited Y) rows a.1 b.1))
      (λ _. both (λ a b. (a.0 ∙ sym b.0, first_unique unbarred_inherited rows a.1 b.1))
      (λ _ z. absurd z)))))
      (in_order A) (in_order B)

  -- a good book has none
  pub fault_breaks : {n i : ℕ} → Fault counts Y rows n i → Formed counts Y rows → ⊥
  fault_breaks F G = past G.exchange (past G.room (past G.whole (past G.rising (past G.counted (in_order F)))))

-- the same rows in another form
module _ {A B : Type 0} (to : A → B) where
  pub formed_as : {Y : Yard} {rows : List Row} → Formed A Y rows → Formed B Y rows
  formed_as G = record { counted = to G.counted; rising = G.rising; whole = G.whole; room = G.room; exchange = G.exchange }

  module _ (of : B → A) {Y Z : Yard} (yard : Y ≡ Z) {rows list : List Row} (same : A → rows ≡ list) where
    moved : (S : Yard → List Row → Type 0) → A → S Y rows → S Z list
    moved S a x = subst (S Z) (same a) (subst (λ (y : Yard). S y rows) yard x)

    pub formed_moved : Formed A Y rows → Formed B Z list
    formed_moved G = moved (Formed B) G.counted (formed_as G)

    pub fault_moved : {n i : ℕ} → Fault A Y rows n i → Fault B Z list n i
    fault_moved (miscounted f) = miscounted (λ b. f (of b))
    fault_moved {n} {i} (unrising a F) = moved (λ y l. Fault B y l n i) a (unrising (to a) F)
    fault_moved {n} {i} (broken a R F) = moved (λ y l. Fault B y l n i) a (broken (to a) R F)
    fault_moved {n} {i} (overfull a R W F) = moved (λ y l. Fault B y l n i) a (overfull (to a) R W F)
    fault_moved {n} {i} (barred a R W M F) = moved (λ y l. Fault B y l n i) a (barred (to a) R W M F)

-- ---- the gate

-- what the gate refuses by: none of the calls' own numbers, 3 to 12, and a row of the book or none
pub record AtGate (g : Papers) (n i : ℕ) : Type 0 where
  pub some : 0 < n
  pub apart : 3 ≤ n → n ≤ 12 → ⊥
  pub row : (most : ℕ) → (g.counted → length g.rows ≤ most) → i ≤ most

bad_one : (g : Papers) → AtGate g 1 0
bad_one g = record { some = omega arith; apart = λ h k. omega arith; row = λ most f. omega arith }

pub at_gate : (g : Papers) {n i : ℕ} → Fault g.counted g.yard g.rows n i → AtGate g n i
at_gate g (miscounted f) = record { some = omega arith; apart = λ h k. omega arith; row = λ most f. omega arith }
at_gate g (unrising c F) = record { some = omega arith; apart = λ h k. omega arith; row = λ most f. omega (arith, first_within g.rows F, f c) }
at_gate g (broken c R B) = record { some = omega arith; apart = λ h k. omega arith; row = λ most f. omega (arith, B.to, f c) }
at_gate g (overfull c R W F) = record { some = omega arith; apart = λ h k. omega arith; row = λ most f. omega (arith, first_within g.rows F, f c) }
at_gate g (barred c R W M F) = record { some = omega arith; apart = λ h k. omega arith; row = λ most f. omega (arith, first_within g.rows F, f c) }

-- what a refusal at the gate gives, and what is given past it
pub checked : {g : Papers} {refused : ℕ → ℕ → Type 0} {rest X : Type 0} → ((n i : ℕ) → AtGate g n i → refused n i → X) → (g.map_good → BookGood g → rest → X)
    → Checked g refused rest → X
checked {g} f r (bad_map m x) = f 1 0 (bad_one g) x
checked {g} f r (bad_book {n} {i} m F x) = f n i (at_gate g F) x
checked f r (sound m G x) = r m G x

-- past it, where map and book are known to be good
pub passed : {g : Papers} {refused : ℕ → ℕ → Type 0} {rest : Type 0} → g.map_good → BookGood g → Checked g refused rest → rest
passed M G (bad_map m x) = absurd (m M)
passed M G (bad_book m F x) = absurd (fault_breaks F G)
passed M G (sound m _ x) = x

-- with a good book only the map can be refused
pub checked_good : {g : Papers} {refused : ℕ → ℕ → Type 0} {rest X : Type 0} → BookGood g → (refused 1 0 → X) → (g.map_good → rest → X) → Checked g refused rest → X
checked_good G f r (bad_map m x) = f x
checked_good G f r (bad_book m F x) = absurd (fault_breaks F G)
checked_good G f r (sound m _ x) = r m x

-- two answers to the same papers are refused by the same number at the same row, or neither is
pub checked_both : {g : Papers} {refused refused' : ℕ → ℕ → Type 0} {rest rest' X : Type 0} → ((n i : ℕ) → refused n i → refused' n i → X)
    → (g.map_good → BookGood g → rest → rest' → X) → Checked g refused rest → Checked g refused' rest' → X
checked_both f r (bad_map m x) (bad_map n y) = f 1 0 x y
checked_both f r (bad_map m x) (bad_book n G y) = absurd (m n)
checked_both f r (bad_map m x) (sound n G y) = absurd (m n)
checked_both f r (bad_book m F x) (bad_map n y) = absurd (n m)
checked_both {refused' = refused'} f r (bad_book {n} {i} m F x) (bad_book {i = j} _ G y) =
    let e = fault_unique G F in
    f n i x (subst (refused' n) e.1 (subst (λ (z : ℕ). refused' z j) e.0 y))
checked_both f r (bad_book m F x) (sound n G y) = absurd (fault_breaks F G)
checked_both f r (sound m G x) (bad_map n y) = absurd (n m)
checked_both f r (sound m G x) (bad_book n F y) = absurd (fault_breaks F G)
checked_both f r (sound m G x) (sound n _ y) = r m G x y

-- the same map and book in another form: good in the one exactly where they are in the other, and then the same yard and rows
pub record SamePapers (g h : Papers) : Type 0 where
  pub map_to : g.map_good → h.map_good
  pub map_of : h.map_good → g.map_good
  pub counted_to : g.map_good → g.counted → h.counted
  pub counted_of : g.map_good → h.counted → g.counted
  pub yard : g.map_good → g.yard ≡ h.yard
  pub rows : g.map_good → g.counted → g.rows ≡ h.rows

pub same_papers : (g : Papers) → SamePapers g g
same_papers g = record { map_to = λ m. m; map_of = λ m. m; counted_to = λ m c. c; counted_of = λ m c. c; yard = λ m. refl; rows = λ m c. refl }

-- the same book is good
pub good_as : {g h : Papers} → SamePapers g h → g.map_good → BookGood g → BookGood h
good_as S m G = formed_moved (S.counted_to m) (S.counted_of m) (S.yard m) (S.rows m) G

-- one answer for another, to the same map and book
pub checked_as : {g h : Papers} {refused refused' : ℕ → ℕ → Type 0} {rest rest' : Type 0} → SamePapers g h → ((n i : ℕ) → AtGate g n i → refused n i → refused' n i)
    → (g.map_good → BookGood g → rest → rest') → Checked g refused rest → Checked h refused' rest'
checked_as {g} S f r (bad_map m x) = bad_map (λ n. m (S.map_of n)) (f 1 0 (bad_one g) x)
checked_as {g} S f r (bad_book {n} {i} m F x) =
    bad_book (S.map_to m) (fault_moved (S.counted_to m) (S.counted_of m) (S.yard m) (S.rows m) F) (f n i (at_gate g F) x)
checked_as S f r (sound m G x) = sound (S.map_to m) (good_as S m G) (r m G x)
