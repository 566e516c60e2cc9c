-- From reached entries back to a plan: a permitted plan grows at its front, and a list is made.
use Prim.Native.Nat.{ℕ, zero, suc, ◌+◌, ◌≤◌, ◌<◌}
use Rattle.std.specs.Prelude.{◌≡◌, false, List, [], ◌∷◌, length}
use Rattle.std.proofs.Math.Path.{refl, subst}
use Rattle.std.proofs.Common.{sym}
use Rattle.std.proofs.Math.Logic.{⊎_elim}
use Rattle.std.proofs.Math.Bool.{true}
use native.Mathlib.Omega.{arith}
use Rattle.laws.specs.Tests.{true_or_false}
use Rattle.rules.specs.declared.Row.{Row}
use Rattle.rules.specs.Limits.{day}
use Rattle.rules.specs.Map.{Yard}
use Rattle.rules.specs.Rows.{covers, load, Barred}
use Rattle.rules.specs.Plan.{Stay, stay_at, held, Permitted}
use Rattle.rules.specs.Window.{Free}
use Rattle.lanes.specs.Stays.{covers_out, bit_true, bit_false}
use Rattle.lanes.specs.Reach.{Reach, begin, go}

pub covers_early : (place entry exit p t : ℕ) → t < entry → covers place entry exit p t ≡ false
covers_early place entry exit p t h = ⊎_elim (λ c. absurd (omega (arith, covers_out place entry exit p t c))) (λ c. c) (true_or_false (covers place entry exit p t))

covers_late : (place entry exit p t : ℕ) → exit ≤ t → covers place entry exit p t ≡ false
covers_late place entry exit p t h = ⊎_elim (λ c. absurd (omega (arith, covers_out place entry exit p t c))) (λ c. c) (true_or_false (covers place entry exit p t))

-- before the first entry no stay is held
held_early : (xs : List Stay) (p t : ℕ) → ((i : ℕ) → i < length xs → t < (stay_at xs i).entry) → held xs p t ≡ 0
unfolding held
held_early [] p t h = refl
held_early (x ∷ xs) p t h = omega (arith, bit_false (covers_early x.place x.entry x.exit p t (h 0 (omega arith))), held_early xs p t (λ i k. h (suc i) (omega arith)))

module _ {Y : Yard} {B : List Row} {dest : ℕ} where
  -- no stay begins before the first
  entry_from : {q u : ℕ} {xs : List Stay} → Permitted Y B q dest u xs → (i : ℕ) → i < length xs → u ≤ (stay_at xs i).entry
  entry_from P zero h = omega (arith, P.first_entry)
  entry_from {xs = xs} P (suc i) h = omega (arith, entry_from P i (omega arith), P.run.meets i h, P.run.lasts i (omega arith))

  -- a plan from q at u becomes one from p at t by a stay in front
  pub in_front : {q u : ℕ} {xs : List Stay} (p t : ℕ) → Permitted Y B q dest u xs → p < Y.places → t + Y.dur p ≤ u → Free Y B p t u
      → Y.link p q ≡ true → (Barred B p q u → ⊥) → Permitted Y B p dest t (record { place = p; entry = t; exit = u } ∷ xs)
  unfolding held
  in_front {q} {u} {xs} p t P m l f k c = record {
    run = record {
      some = omega arith;
      on_map = on_map;
      meets = meets;
      goes = goes;
      lasts = lasts;
      last_exact = last_exact;
      last_exit = last_exit;
    };
    first_place = refl;
    first_entry = refl;
    last_place = last_place;
    room = room;
    exchange = exchange;
  }
    where
      x : Stay
      x = record { place = p; entry = t; exit = u }

      on_map : (i : ℕ) → i < length (x ∷ xs) → (stay_at (x ∷ xs) i).place < Y.places
      on_map zero h = m
      on_map (suc i) h = P.run.on_map i (omega arith)

      meets : (i : ℕ) → suc i < length (x ∷ xs) → (stay_at (x ∷ xs) i).exit ≡ (stay_at (x ∷ xs) (suc i)).entry
      meets zero h = sym P.first_entry
      meets (suc i) h = P.run.meets i (omega arith)

      goes : (i : ℕ) → suc i < length (x ∷ xs) → Y.link (stay_at (x ∷ xs) i).place (stay_at (x ∷ xs) (suc i)).place ≡ true
      goes zero h = rw P.first_place k
      goes (suc i) h = P.run.goes i (omega arith)

      lasts : (i : ℕ) → i < length (x ∷ xs) → (stay_at (x ∷ xs) i).entry + Y.dur (stay_at (x ∷ xs) i).place ≤ (stay_at (x ∷ xs) i).exit
      lasts zero h = l
      lasts (suc i) h = P.run.lasts i (omega arith)

      last_exact : (i : ℕ) → suc i ≡ length (x ∷ xs) → (stay_at (x ∷ xs) i).exit ≡ (stay_at (x ∷ xs) i).entry + Y.dur (stay_at (x ∷ xs) i).place
      last_exact zero h = absurd (omega (arith, P.run.some))
      last_exact (suc i) h = P.run.last_exact i (omega arith)

      last_exit : (i : ℕ) → suc i ≡ length (x ∷ xs) → (stay_at (x ∷ xs) i).exit ≤ day
      last_exit zero h = absurd (omega (arith, P.run.some))
      last_exit (suc i) h = P.run.last_exit i (omega arith)

      last_place : (i : ℕ) → suc i ≡ length (x ∷ xs) → (stay_at (x ∷ xs) i).place ≡ dest
      last_place zero h = absurd (omega (arith, P.run.some))
      last_place (suc i) h = P.last_place i (omega arith)

      exchange : (i : ℕ) → suc i < length (x ∷ xs) → Barred B (stay_at (x ∷ xs) i).place (stay_at (x ∷ xs) (suc i)).place (stay_at (x ∷ xs) i).exit → ⊥
      exchange zero h = rw P.first_place c
      exchange (suc i) h = P.exchange i (omega arith)

      room : (p' t' : ℕ) → p' < Y.places → load B p' t' + held (x ∷ xs) p' t' ≤ Y.cap p'
      room p' t' h = ⊎_elim now later (true_or_false (covers p t u p' t'))
        where
          now : covers p t u p' t' ≡ true → load B p' t' + held (x ∷ xs) p' t' ≤ Y.cap p'
          now e =
              let g = covers_out p t u p' t' e in
              omega (arith, bit_true e, held_early xs p' t' (λ i h'. omega (arith, entry_from P i h')), subst (λ z. load B z t' < Y.cap z) g.0 (f t' g.1 g.2))

          later : covers p t u p' t' ≡ false → load B p' t' + held (x ∷ xs) p' t' ≤ Y.cap p'
          later e = omega (arith, bit_false e, P.room p' t' h)

  -- the last stay alone
  pub alone : {t : ℕ} → dest < Y.places → ((p u : ℕ) → p < Y.places → load B p u ≤ Y.cap p) → t + Y.dur dest ≤ day → Free Y B dest t (t + Y.dur dest)
      → Permitted Y B dest dest t (record { place = dest; entry = t; exit = t + Y.dur dest } ∷ [])
  unfolding held
  alone {t} m b d f = record {
    run = record {
      some = omega arith;
      on_map = on_map;
      meets = λ i h. absurd (omega arith);
      goes = λ i h. absurd (omega arith);
      lasts = lasts;
      last_exact = last_exact;
      last_exit = last_exit;
    };
    first_place = refl;
    first_entry = refl;
    last_place = last_place;
    room = room;
    exchange = λ i h. absurd (omega arith);
  }
    where
      one : List Stay
      one = record { place = dest; entry = t; exit = t + Y.dur dest } ∷ []

      on_map : (i : ℕ) → i < length one → (stay_at one i).place < Y.places
      on_map zero h = m
      on_map (suc i) h = absurd (omega arith)

      lasts : (i : ℕ) → i < length one → (stay_at one i).entry + Y.dur (stay_at one i).place ≤ (stay_at one i).exit
      lasts zero h = omega arith
      lasts (suc i) h = absurd (omega arith)

      last_exact : (i : ℕ) → suc i ≡ length one → (stay_at one i).exit ≡ (stay_at one i).entry + Y.dur (stay_at one i).place
      last_exact zero h = refl
      last_exact (suc i) h = absurd (omega arith)

      last_exit : (i : ℕ) → suc i ≡ length one → (stay_at one i).exit ≤ day
      last_exit zero h = d
      last_exit (suc i) h = absurd (omega arith)

      last_place : (i : ℕ) → suc i ≡ length one → (stay_at one i).place ≡ dest
      last_place zero h = refl
      last_place (suc i) h = absurd (omega arith)

      room : (p u : ℕ) → p < Y.places → load B p u + held (record { place = dest; entry = t; exit = t + Y.dur dest } ∷ []) p u ≤ Y.cap p
      room p u h = ⊎_elim now later (true_or_false (covers dest t (t + Y.dur dest) p u))
        where
          now : covers dest t (t + Y.dur dest) p u ≡ true → load B p u + held (record { place = dest; entry = t; exit = t + Y.dur dest } ∷ []) p u ≤ Y.cap p
          now e =
              let g = covers_out dest t (t + Y.dur dest) p u e in
              omega (arith, bit_true e, subst (λ z. load B z u < Y.cap z) g.0 (f u g.1 g.2))

          later : covers dest t (t + Y.dur dest) p u ≡ false → load B p u + held (record { place = dest; entry = t; exit = t + Y.dur dest } ∷ []) p u ≤ Y.cap p
          later e = omega (arith, bit_false e, b p u h)

  -- a reached entry and a plan from it make a plan from the start
  pub from_reach : {start s p t : ℕ} {xs : List Stay} → ((p q : ℕ) → Y.link p q ≡ true → p < Y.places) → Reach Y B start s p t → Permitted Y B p dest t xs
      → (ys : List Stay) × Permitted Y B start dest s ys
  from_reach ok begin P = (_, P)
  from_reach ok (go {p} {t} q u r l d f k c) P = from_reach ok r (in_front p t P (ok p q k) l f k c)
