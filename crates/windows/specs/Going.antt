-- All places, one after the other: the first p are done, their rows are the first a, their windows the first w. Holds at first, kept by a turn,
-- gives the answer.
use Rattle.std.specs.Prelude.{ℕ, ◌+◌, ◌-◌, ◌≤◌, ◌<◌, ◌≡◌, List, length, set, Option, None, Some}
use Rattle.std.proofs.Common.{sym, ap, subst, ◌∙◌, ⊎_elim, arith, length-set, below_more}
use Rattle.laws.specs.Order.{lt_or_ge}
use Rattle.laws.specs.Lists.{at}
use Rattle.rules.specs.Limits.{day}
use Rattle.rules.specs.Map.{Yard}
use Rattle.rules.specs.Window.{Span}
use Rattle.lanes.specs.Nodes.{Windows}
use Rattle.flat.specs.Flat.{Of, place_of, rows_in, span_at, Grouped}
use Rattle.windows.specs.Sweep.{run_load, Sweepable, Sweep}
use Rattle.windows.specs.Places.{Past, Given, AllWindows}
use Rattle.windows.specs.Runs.{Run, past_run, run_order, load_at, load_rows, load_run}
use Rattle.windows.specs.Turns.{of_some}
use Rattle.windows.specs.Groups.{grouped_none, grouped_next}
use Rattle.windows.specs.Listed.{Listed, listed_none, listed_next, sweep_same, listed_windows}

pub record Going (n count : ℕ) (C D K X : List ℕ) (p a w : ℕ) (S E P F : List ℕ) : Type 0 where
  pub len_s : length S ≡ 1280
  pub len_e : length E ≡ 1280
  pub len_p : length P ≡ 1280
  pub len_f : length F ≡ 257
  pub to : p ≤ n
  pub within : a ≤ count
  pub few : w ≤ a + p
  pub under : (i : ℕ) → i < a → place_of (at K i) < p
  pub ahead : (i : ℕ) → a ≤ i → i < count → p ≤ place_of (at K i)
  pub windows : Grouped (at P) F p w
  pub fits : (q : ℕ) → q < p → (t : ℕ) → load_at K X count q t ≤ at C q
  pub listed : Listed (load_at K X count) C D p w (span_at P S E)

pub going_none : {n count : ℕ} {C D K X S E P : List ℕ} (F : List ℕ) → length S ≡ 1280 → length E ≡ 1280 → length P ≡ 1280 → length F ≡ 257
    → Going n count C D K X 0 0 0 S E P (set F 0 0)
going_none {P = P} F lS lE lP lF = record {
  len_s = lS;
  len_e = lE;
  len_p = lP;
  len_f = length-set F 0 0 ∙ lF;
  to = omega arith;
  within = omega arith;
  few = omega arith;
  under = λ i h. absurd (omega arith);
  ahead = λ i h k. omega arith;
  windows = grouped_none (at P) F (omega arith);
  fits = λ q h. absurd (omega arith);
  listed = listed_none;
}

module _ {n count : ℕ} {C D K X : List ℕ} {p a w : ℕ} {S E P F : List ℕ} {b : ℕ}
    (G : Given n count C D K X)
    (I : Going n count C D K X p a w S E P F)
    (h : p < n)
    (B : Past K count a p b)
  where
    run : Run K count p a b
    run = past_run G I.under I.ahead B

    pub going_sweepable : Sweepable K X a b (at C p) (at D p) w
    going_sweepable = record {
      up = B.from;
      within = omega (arith, B.to, G.rows);
      cap_from = G.cap_from p h;
      cap_to = G.cap_to p h;
      dur_from = G.dur_from p h;
      dur_to = G.dur_to p h;
      spare = omega (arith, I.few, B.from, B.to, G.rows, G.places);
      rows = run_order G run;
    }

    module _ {r : Option ℕ} {S' E' P' : List ℕ}
        (A' : Sweep (run_load K X a b) (at C p) (at D p) p w (b - a) (span_at P S E) r S' E' P')
      where
        A : Sweep (load_at K X count p) (at C p) (at D p) p w (b - a) (span_at P S E) r S' E' P'
        A = sweep_same (λ t. sym (load_run X run t)) A'

        pub going_over : r ≡ None → AllWindows n count C D K X None S' E' P' F
        going_over e = let z = A.overfull e in record {
          bound = λ w q. cc;
          overfull = λ _. (p, z.0, h, omega (arith, z.1, load_rows K X count p z.0));
          fits = λ w q. cc;
          windows = λ w q. cc;
          by_place = λ w q. cc;
          ends_in_day = λ w q. cc;
          len_s = A.len_s;
          len_e = A.len_e;
          len_p = A.len_p;
          len_f = I.len_f;
        }

        pub going_next : (v : ℕ) → r ≡ Some v → Going n count C D K X (p + 1) b v S' E' P' (set F (p + 1) v)
        going_next v k = let s = A.swept v k in record {
          len_s = A.len_s;
          len_e = A.len_e;
          len_p = A.len_p;
          len_f = length-set F (p + 1) v ∙ I.len_f;
          to = omega arith;
          within = B.to;
          few = omega (arith, A.few v k, I.few, B.from);
          under = λ i l. ⊎_elim (λ (q : i < a). omega (arith, I.under i q)) (λ (q : a ≤ i). omega (arith, B.same i q l)) (lt_or_ge i a);
          ahead = λ i l m. omega (arith, run.beyond i l m);
          windows = grouped_next I.windows (λ i l. ap (λ (v : Span). v.place) (s.kept i l)) (λ i x y. s.placed i x y) s.some (omega (arith, I.len_f, G.places));
          fits = below_more (λ q. (t : ℕ) → load_at K X count q t ≤ at C q) p I.fits (A.fits v k);
          listed = listed_next I.listed s (G.dur_from p h);
        }

-- no place is left
pub going_done : {n count : ℕ} {C D K X : List ℕ} {p a w : ℕ} {S E P F : List ℕ} → Given n count C D K X → n ≤ p → Going n count C D K X p a w S E P F → AllWindows n count C D K X (Some w) S E P F
going_done {n} {count} {C} {D} {K} {X} {p} {a} {w} {S} {E} {P} {F} G l J = record {
  bound = of_some (λ v. v ≤ 1280) (omega (arith, I.few, I.within, G.rows, G.places));
  overfull = λ e. cc;
  fits = λ _ _ q t h. omega (arith, I.fits q h t, load_rows K X count q t);
  windows = of_some (λ v. (Y : Yard) → Of Y C D n → Windows Y (rows_in K X count) v (span_at P S E)) (λ Y O. listed_windows Y (rows_in K X count) I.listed O (λ q t. load_rows K X count q t));
  by_place = of_some (Grouped (at P) F n) I.windows;
  ends_in_day = of_some (λ v. (i : ℕ) → i < v → at E i ≤ day) (λ i h. (I.listed.are i h).in_day);
  len_s = I.len_s;
  len_e = I.len_e;
  len_p = I.len_p;
  len_f = I.len_f;
}
  where
    I : Going n count C D K X n a w S E P F
    I = subst (λ q. Going n count C D K X q a w S E P F) {x = p} (omega (arith, J.to)) J
