-- Tests put together: a list of tests that all hold, a test of all members, one test under another, and what each then says.
use Rattle.std.specs.Prelude.{ℕ, zero, suc, ◌≡◌, refl, Bool, true, false, ◌&&◌, ◌||◌, not, get_or, eqb, leb, ltb}
use Rattle.std.proofs.Common.{sym, ap₂, subst, ⊎_elim, arith, eqb-true, leb-true, ltb-true}
use mathlib.Core.List.Memᴰ
use mathlib.Core.List.{List, [], ◌∷◌, Memᴰ}
use Rattle.std.proofs.lemmas.Bool.{not-true}
use Rattle.laws.specs.Tests.{and_l, and_r, or_out}
use Rattle.rules.specs.declared.Row.{Row}
use Rattle.rules.specs.RowLaws.{row_eq}
use Rattle.rules.specs.Plan.{Stay}
use Rattle.rules.specs.Chosen.{LexLe}

-- all of them hold
abbrev pub every : List Bool → Bool
every [] = true
every (t ∷ ts) = t && every ts

pub holds : (ts : List Bool) → every ts ≡ true → (i : ℕ) → get_or ts i true ≡ true
holds [] e i = refl
holds (t ∷ ts) e zero = and_l t (every ts) e
holds (t ∷ ts) e (suc i) = holds ts (and_r t (every ts) e) i

-- the test holds of all members
abbrev pub all_b : {A : Type 0} → (A → Bool) → List A → Bool
all_b f [] = true
all_b f (x ∷ xs) = f x && all_b f xs

pub all_out : {A : Type 0} (f : A → Bool) (xs : List A) → all_b f xs ≡ true → (x : A) → Memᴰ x xs → f x ≡ true
all_out f [] t x m = absurd (Memᴰ.not-nil m)
all_out f (y ∷ xs) t x m = ⊎_elim (λ e. subst (λ z. f z ≡ true) (sym e) (and_l (f y) (all_b f xs) t)) (λ n. all_out f xs (and_r (f y) (all_b f xs) t) x n) (Memᴰ.cases_cons m)

-- the second holds where the first does
unfoldable pub under : Bool → Bool → Bool
under true b = b
under false b = true

pub under_out : {a b : Bool} → under a b ≡ true → a ≡ true → b ≡ true
unfolding under
under_out {a = true} {b} t e = t
under_out {a = false} {b} t e = absurd (let z : ◌≡◌ {A = ℕ} 0 1 = cc in omega arith)

-- (a, b, c) is at most (a', b', c'), compared in that order
unfoldable pub lex_b : ℕ → ℕ → ℕ → ℕ → ℕ → ℕ → Bool
lex_b a b c a' b' c' = ltb a a' || (eqb a a' && (ltb b b' || (eqb b b' && leb c c')))

pub lex_out : (a b c a' b' c' : ℕ) → lex_b a b c a' b' c' ≡ true → LexLe a b c a' b' c'
unfolding lex_b
lex_out a b c a' b' c' t = ⊎_elim less same (or_out (ltb a a') (eqb a a' && (ltb b b' || (eqb b b' && leb c c'))) t)
  where
    less : ltb a a' ≡ true → LexLe a b c a' b' c'
    less x = let h = ltb-true a a' x in record { one = omega arith; two = λ e. absurd (omega arith); three = λ e e'. absurd (omega arith) }

    same : (eqb a a' && (ltb b b' || (eqb b b' && leb c c'))) ≡ true → LexLe a b c a' b' c'
    same x =
        let e = eqb-true a a' (and_l (eqb a a') (ltb b b' || (eqb b b' && leb c c')) x) in
        ⊎_elim (λ (y : ltb b b' ≡ true). let h = ltb-true b b' y in record { one = omega arith; two = λ z. omega arith; three = λ z z'. absurd (omega arith) })
        (λ (y : (eqb b b' && leb c c') ≡ true).
        let h = eqb-true b b' (and_l (eqb b b') (leb c c') y) in
        let k = leb-true c c' (and_r (eqb b b') (leb c c') y) in
        record { one = omega arith; two = λ z. omega arith; three = λ z z'. k })
        (or_out (ltb b b') (eqb b b' && leb c c') (and_r (eqb a a') (ltb b b' || (eqb b b' && leb c c')) x))

-- two plans are the same, stay by stay
unfoldable pub same_plan : List Stay → List Stay → Bool
same_plan [] [] = true
same_plan [] (y ∷ ys) = false
same_plan (x ∷ xs) [] = false
same_plan (x ∷ xs) (y ∷ ys) = every (eqb x.place y.place ∷ eqb x.entry y.entry ∷ eqb x.exit y.exit ∷ same_plan xs ys ∷ [])

pub same_plan_lem : (xs ys : List Stay) → same_plan xs ys ≡ true → xs ≡ ys
unfolding same_plan
same_plan_lem [] [] t = refl
same_plan_lem [] (y ∷ ys) t = absurd (let z : ◌≡◌ {A = ℕ} 0 1 = cc in omega arith)
same_plan_lem (x ∷ xs) [] t = absurd (let z : ◌≡◌ {A = ℕ} 0 1 = cc in omega arith)
same_plan_lem (x ∷ xs) (y ∷ ys) t =
    let ts = eqb x.place y.place ∷ eqb x.entry y.entry ∷ eqb x.exit y.exit ∷ same_plan xs ys ∷ [] in
    let p = eqb-true x.place y.place (holds ts t 0) in
    let q = eqb-true x.entry y.entry (holds ts t 1) in
    let r = eqb-true x.exit y.exit (holds ts t 2) in
    let e = same_plan_lem xs ys (holds ts t 3) in
    λ i. record { place = p i; entry = q i; exit = r i } ∷ e i

-- two lists of rows are the same, row by row
unfoldable pub same_rows : List Row → List Row → Bool
same_rows [] [] = true
same_rows [] (y ∷ ys) = false
same_rows (x ∷ xs) [] = false
same_rows (x ∷ xs) (y ∷ ys) =
    every (eqb x.place y.place ∷ eqb x.entry y.entry ∷ eqb x.ticket y.ticket ∷ eqb x.exit y.exit ∷ eqb x.next y.next ∷ same_rows xs ys ∷ [])

pub same_rows_lem : (xs ys : List Row) → same_rows xs ys ≡ true → xs ≡ ys
unfolding same_rows
same_rows_lem [] [] t = refl
same_rows_lem [] (y ∷ ys) t = absurd (let z : ◌≡◌ {A = ℕ} 0 1 = cc in omega arith)
same_rows_lem (x ∷ xs) [] t = absurd (let z : ◌≡◌ {A = ℕ} 0 1 = cc in omega arith)
same_rows_lem (x ∷ xs) (y ∷ ys) t =
    let ts = eqb x.place y.place ∷ eqb x.entry y.entry ∷ eqb x.ticket y.ticket ∷ eqb x.exit y.exit ∷ eqb x.next y.next ∷ same_rows xs ys ∷ [] in
    let p = eqb-true x.place y.place (holds ts t 0) in
    let q = eqb-true x.entry y.entry (holds ts t 1) in
    let k = eqb-true x.ticket y.ticket (holds ts t 2) in
    let r = eqb-true x.exit y.exit (holds ts t 3) in
    let n = eqb-true x.next y.next (holds ts t 4) in
    let e = same_rows_lem xs ys (holds ts t 5) in
    let h : x ≡ y = row_eq p q k r n in
    ap₂ (λ (z : Row) (l : List Row). z ∷ l) h e

-- two answers are the same
unfoldable pub answers_agree : Bool → Bool → Bool
answers_agree true b = b
answers_agree false b = not b

pub same_answer : (a b : Bool) → answers_agree a b ≡ true → a ≡ b
unfolding answers_agree
same_answer true b t = sym t
same_answer false b t = sym (not-true b t)
