-- A permitted plan's beginning, cut to its last place's duration, is a permitted plan, and enters the window that holds its last stay.
use Prim.Native.Nat.{ℕ, zero, suc, ◌+◌, ◌≤◌, ◌<◌}
use Rattle.std.specs.Prelude.{◌≡◌, length}
use Rattle.std.proofs.Math.Path.{refl, sym, ap}
use Rattle.std.proofs.Common.{◌∙◌}
use Rattle.std.proofs.Math.Logic.{⊎_elim}
use mathlib.Core.List.{List, [], ◌∷◌}
use native.Mathlib.Omega.{arith}
use Rattle.laws.specs.Order.{lt_or_ge}
use Rattle.laws.specs.Tests.{true_or_false}
use Rattle.rules.specs.declared.Row.{Row}
use Rattle.rules.specs.Map.{Yard}
use Rattle.rules.specs.Rows.{covers, bit}
use Rattle.rules.specs.Plan.{Stay, stay_at, held, Permitted}
use Rattle.rules.specs.Window.{Span, Enters}
use Rattle.lanes.specs.Stays.{covers_in, covers_out, bit_true, bit_false}
use Rattle.lanes.specs.Windows.{ends, stay_in}

-- a stay cut to its place's duration
abbrev pub cut : Yard → Stay → Stay
cut Y x = record { place = x.place; entry = x.entry; exit = x.entry + Y.dur x.place }

-- the beginning of a plan up to stay i: the stays before it, and stay i cut to its place's duration
unfoldable pub beginning : Yard → List Stay → ℕ → List Stay
beginning Y [] i = []
beginning Y (x ∷ xs) zero = cut Y x ∷ []
beginning Y (x ∷ xs) (suc i) = x ∷ beginning Y xs i

-- a stay that ends no later covers no more
covers_less : (place entry exit exit' p t : ℕ) → exit ≤ exit' → bit (covers place entry exit p t) ≤ bit (covers place entry exit' p t)
covers_less place entry exit exit' p t h = ⊎_elim
    (λ c. let g = covers_out place entry exit p t c in omega (arith, bit_true c, bit_true (covers_in place entry exit' p t g.0 g.1 (omega arith))))
    (λ c. omega (arith, bit_false c))
    (true_or_false (covers place entry exit p t))

module _ (Y : Yard) where
  pub beginning_length : (plan : List Stay) (i : ℕ) → i < length plan → length (beginning Y plan i) ≡ suc i
  unfolding beginning
  beginning_length [] i h = absurd (omega arith)
  beginning_length (x ∷ xs) zero h = refl
  beginning_length (x ∷ xs) (suc i) h = omega (arith, beginning_length xs i (omega arith))

  -- its stays before the last are the plan's
  pub beginning_before : (plan : List Stay) (i j : ℕ) → i < length plan → j < i → stay_at (beginning Y plan i) j ≡ stay_at plan j
  unfolding beginning
  beginning_before [] i j h k = absurd (omega arith)
  beginning_before (x ∷ xs) zero j h k = absurd (omega arith)
  beginning_before (x ∷ xs) (suc i) zero h k = refl
  beginning_before (x ∷ xs) (suc i) (suc j) h k = beginning_before xs i j (omega arith) (omega arith)

  -- its last is the plan's, cut
  pub beginning_last : (plan : List Stay) (i : ℕ) → i < length plan → stay_at (beginning Y plan i) i ≡ cut Y (stay_at plan i)
  unfolding beginning
  beginning_last [] i h = absurd (omega arith)
  beginning_last (x ∷ xs) zero h = refl
  beginning_last (x ∷ xs) (suc i) h = beginning_last xs i (omega arith)

  -- it holds no place where the plan does not
  beginning_held : (plan : List Stay) (i p t : ℕ) → i < length plan → (stay_at plan i).entry + Y.dur (stay_at plan i).place ≤ (stay_at plan i).exit
      → held (beginning Y plan i) p t ≤ held plan p t
  unfolding beginning held
  beginning_held [] i p t h l = absurd (omega arith)
  beginning_held (x ∷ xs) zero p t h l = omega (arith, covers_less x.place x.entry (x.entry + Y.dur x.place) x.exit p t l)
  beginning_held (x ∷ xs) (suc i) p t h l = omega (arith, beginning_held xs i p t (omega arith) l)

-- stay i of a plan lies in a window, and the plan's beginning enters that window at the stay's entry
pub record Lies (Y : Yard) (B : List Row) (start s : ℕ) (plan : List Stay) (i : ℕ) : Type 0 where
  pub window : Span
  pub at : window.place ≡ (stay_at plan i).place
  pub enters : Enters Y B start s window (stay_at plan i).entry
  pub begins : enters.plan ≡ beginning Y plan i
  pub to : (stay_at plan i).exit ≤ window.to

module _ {Y : Yard} {B : List Row} {start dest s : ℕ} {plan : List Stay} (P : Permitted Y B start dest s plan) (i : ℕ) (h : i < length plan) where
  begun : List Stay
  begun = beginning Y plan i

  begun_length : length begun ≡ suc i
  unfolding begun
  begun_length = beginning_length Y plan i h

  -- places and entries are the plan's
  same_place : (j : ℕ) → j ≤ i → (stay_at begun j).place ≡ (stay_at plan j).place
  unfolding begun
  same_place j k = ⊎_elim
      (λ (c : j < i). ap (λ (x : Stay). x.place) (beginning_before Y plan i j h c))
      (λ (c : i ≤ j). let e : j ≡ i = omega arith in rw e (ap (λ (x : Stay). x.place) (beginning_last Y plan i h)))
      (lt_or_ge j i)

  same_entry : (j : ℕ) → j ≤ i → (stay_at begun j).entry ≡ (stay_at plan j).entry
  unfolding begun
  same_entry j k = ⊎_elim
      (λ (c : j < i). ap (λ (x : Stay). x.entry) (beginning_before Y plan i j h c))
      (λ (c : i ≤ j). let e : j ≡ i = omega arith in rw e (ap (λ (x : Stay). x.entry) (beginning_last Y plan i h)))
      (lt_or_ge j i)

  same_exit : (j : ℕ) → j < i → (stay_at begun j).exit ≡ (stay_at plan j).exit
  unfolding begun
  same_exit j k = ap (λ (x : Stay). x.exit) (beginning_before Y plan i j h k)

  last_exit : (stay_at begun i).exit ≡ (stay_at begun i).entry + Y.dur (stay_at begun i).place
  unfolding begun
  last_exit = rw (beginning_last Y plan i h)

  pub beginning_permitted : Permitted Y B start (stay_at plan i).place s (beginning Y plan i)
  unfolding begun
  beginning_permitted = record {
    run = record {
      some = omega (arith, begun_length);
      on_map = λ j k. rw (same_place j (omega (arith, begun_length))) (P.run.on_map j (omega (arith, begun_length)));
      meets = λ j k. let c : j < i = omega (arith, begun_length) in same_exit j c ∙ P.run.meets j (omega arith) ∙ sym (same_entry (suc j) c);
      goes = λ j k. let c : j < i = omega (arith, begun_length) in rw (same_place j (omega arith), same_place (suc j) c) (P.run.goes j (omega arith));
      lasts = λ j k. ⊎_elim
          (λ (c : j < i). rw (same_place j (omega arith), same_entry j (omega arith), same_exit j c) (P.run.lasts j (omega arith)))
          (λ (c : i ≤ j). let e : j ≡ i = omega (arith, begun_length) in rw e (omega (arith, last_exit)))
          (lt_or_ge j i);
      last_exact = λ j k. let e : j ≡ i = omega (arith, begun_length) in rw e last_exit;
      last_exit = λ j k.
          let e : j ≡ i = omega (arith, begun_length) in
          rw (e, last_exit, same_place i (omega arith), same_entry i (omega arith)) (omega (arith, P.run.lasts i h, ends P i h));
    };
    first_place = same_place 0 (omega arith) ∙ P.first_place;
    first_entry = same_entry 0 (omega arith) ∙ P.first_entry;
    last_place = λ j k. let e : j ≡ i = omega (arith, begun_length) in rw e (same_place i (omega arith));
    room = λ p t m. omega (arith, P.room p t m, beginning_held Y plan i p t h (P.run.lasts i h));
    exchange = λ j k. let c : j < i = omega (arith, begun_length) in rw (same_place j (omega arith), same_place (suc j) c, same_exit j c) (P.exchange j (omega arith));
  }

  pub beginning_entry : (j : ℕ) → suc j ≡ length (beginning Y plan i) → (stay_at (beginning Y plan i) j).entry ≡ (stay_at plan i).entry
  unfolding begun
  beginning_entry j k = let e : j ≡ i = omega (arith, begun_length) in rw e (same_entry i (omega arith))

  pub stay_lies : Lies Y B start s plan i
  stay_lies =
      let v = stay_in P i h in
      record {
        window = record { place = (stay_at plan i).place; from = v.start; to = v.end };
        at = refl;
        enters = record {
          window = v.window;
          from = v.from;
          to = omega (arith, v.to, P.run.lasts i h);
          plan = beginning Y plan i;
          permitted = beginning_permitted;
          entered = beginning_entry;
        };
        begins = refl;
        to = v.to;
      }
