-- What covering a second says, and that a permitted plan stays where there is room.
use Rattle.std.specs.Prelude.{ℕ, zero, suc, ◌≤◌, ◌<◌, ◌≡◌, refl, Bool, true, false, ◌&&◌, List, [], ◌∷◌, length, eqb, leb, ltb}
use Rattle.std.proofs.Common.{arith, eqb-true, leb-true, ltb-true, eq-eqb, le-leb, lt-ltb}
use Rattle.laws.specs.Tests.{and_in, and_l, and_r}
use Rattle.rules.specs.declared.Row.{Row}
use Rattle.rules.specs.Map.{Yard}
use Rattle.rules.specs.Rows.{covers, bit, load}
use Rattle.rules.specs.Plan.{Stay, stay_at, held, Permitted, arrival}

pub bit_true : {b : Bool} → b ≡ true → bit b ≡ 1
bit_true s = rw s

pub bit_false : {b : Bool} → b ≡ false → bit b ≡ 0
bit_false s = rw s

pub covers_in : (place entry exit p t : ℕ) → place ≡ p → entry ≤ t → t < exit → covers place entry exit p t ≡ true
unfolding covers
covers_in place entry exit p t e a b = and_in (eq-eqb place p e) (and_in (le-leb entry t a) (lt-ltb t exit b))

pub covers_out : (place entry exit p t : ℕ) → covers place entry exit p t ≡ true → (place ≡ p) × (entry ≤ t) × (t < exit)
unfolding covers
covers_out place entry exit p t h =
    let l = and_l (eqb place p) (leb entry t && ltb t exit) h in
    let r = and_r (eqb place p) (leb entry t && ltb t exit) h in
    (eqb-true place p l, leb-true entry t (and_l (leb entry t) (ltb t exit) r), ltb-true t exit (and_r (leb entry t) (ltb t exit) r))

-- a stay of the plan that covers the second is counted
pub held_some : (xs : List Stay) (i p t : ℕ) → i < length xs → covers (stay_at xs i).place (stay_at xs i).entry (stay_at xs i).exit p t ≡ true → 1 ≤ held xs p t
unfolding held
held_some [] i p t h c = absurd (omega arith)
held_some (x ∷ xs) zero p t h c = omega (arith, bit_true c)
held_some (x ∷ xs) (suc i) p t h c = omega (arith, held_some xs i p t (omega arith) c)

-- where a plan is permitted, the booked load is below capacity at each second of each stay
pub stay_safe : {Y : Yard} {B : List Row} {start dest s : ℕ} {plan : List Stay} → Permitted Y B start dest s plan
    → (i t : ℕ) → i < length plan → (stay_at plan i).entry ≤ t → t < (stay_at plan i).exit → load B (stay_at plan i).place t < Y.cap (stay_at plan i).place
stay_safe {plan} P i t h a b =
    omega (arith, P.room (stay_at plan i).place t (P.run.on_map i h), held_some plan i (stay_at plan i).place t h (covers_in _ _ _ _ t refl a b))

-- it is the exit of the stay that is last by index
pub arrival_last : (xs : List Stay) (i : ℕ) → suc i ≡ length xs → arrival xs ≡ (stay_at xs i).exit
unfolding arrival
arrival_last [] i h = absurd (omega arith)
arrival_last (x ∷ []) zero h = refl
arrival_last (x ∷ []) (suc i) h = absurd (omega arith)
arrival_last (x ∷ (y ∷ ys)) zero h = absurd (omega arith)
arrival_last (x ∷ (y ∷ ys)) (suc i) h = arrival_last (y ∷ ys) i (omega arith)

pub arrival_cons : (x : Stay) (xs : List Stay) → 0 < length xs → arrival (x ∷ xs) ≡ arrival xs
unfolding arrival
arrival_cons x [] h = absurd (omega arith)
arrival_cons x (y ∷ ys) h = refl
