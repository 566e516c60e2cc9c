-- The sweep's state after n rows: from the last entry on, the load is the number of kept exits above the second, so the place is full exactly while
-- the least of them lies ahead. Holds at first, kept by a turn in each of its three cases, gives the answer.
use Rattle.std.specs.Prelude.{ℕ, ◌+◌, ◌≤◌, ◌<◌, ◌≡◌, List, length, set, None, Some}
use Rattle.std.proofs.Common.{sym, subst, ◌∙◌, ⊎_elim, arith, length-set, get_or-set_same}
use Rattle.laws.specs.Order.{lt_or_ge}
use Rattle.laws.specs.Lists.{at}
use Rattle.rules.specs.Limits.{day}
use Rattle.rules.specs.Window.{Span}
use Rattle.flat.specs.Flat.{span_at}
use Rattle.windows.specs.Sweep.{load_to, InOrder, LeastAt, Swept, Sweep}
use Rattle.windows.specs.Loads.{over_yes, over_no, covered_from, covered_before, above, above_le, above_none, above_all, above_some, above_set, load_none, load_next, load_more, last_entry, last_none, last_next, last_le}
use Rattle.windows.specs.Written.{Written, put_arrays, written_none, written_room, written_short, written_more, swept_short, swept_more}

pub record State (en ex : ℕ → ℕ) (c d p from : ℕ) (was : ℕ → Span) (n : ℕ) (top : List ℕ) (low free w : ℕ) (S E P : List ℕ) : Type 0 where
  pub len_top : length top ≡ 16
  pub len_s : length S ≡ 1280
  pub len_e : length E ≡ 1280
  pub len_p : length P ≡ 1280
  pub low_at : LeastAt top c low
  pub count : (t : ℕ) → last_entry en n ≤ t → load_to en ex n t ≡ above top c t
  pub fits : (t : ℕ) → load_to en ex n t ≤ c
  pub few : w ≤ from + n
  pub ends : free ≤ day
  pub written : Written (load_to en ex n) c d p from was (last_entry en n) free w (span_at P S E)

pub state_none : {en ex : ℕ → ℕ} {c d p from : ℕ} {S E P top : List ℕ} → 1 ≤ c → length top ≡ 16 → ((k : ℕ) → at top k ≡ 0) → length S ≡ 1280 → length E ≡ 1280 → length P ≡ 1280
    → State en ex c d p from (span_at P S E) 0 top 0 0 from S E P
state_none {en} {ex} {c} {d} {p} {from} {S} {E} {P} {top} cp l z lS lE lP = record {
  len_top = l;
  len_s = lS;
  len_e = lE;
  len_p = lP;
  low_at = record { within = cp; least = λ k h. omega (arith, z 0, z k) };
  count = λ t h. load_none en ex t ∙ sym (above_none top c t (λ k q. omega (arith, z k)));
  fits = λ t. omega (arith, load_none en ex t);
  few = omega arith;
  ends = omega arith;
  written = rw (last_none en) (written_none (λ t. omega (arith, load_none en ex t)));
}

module _
    {en ex : ℕ → ℕ} {c d p from N : ℕ} {was : ℕ → Span} {n : ℕ} {top : List ℕ} {low free w : ℕ} {S E P : List ℕ}
    (R : InOrder en ex N)
    (cm : c ≤ 16)
    (dp : 1 ≤ d)
    (I : State en ex c d p from was n top low free w S E P)
    (h : n < N)
  where
    -- the row comes while all c kept exits are above its entry: overfull
    pub too_many : en n < at top low → (t : ℕ) × (c < load_to en ex N t)
    too_many q =
        let t = en n in
        let a = above_all top c t (λ k l. omega (arith, I.low_at.least k l)) in
        let b = I.count t (last_le R n h) in
        let e = load_next en ex n t in
        let f = covered_from t (ex n) t (omega arith) in
        let g = over_yes (ex n) t (R.lasts n h) in
        let m = load_more en ex N (n + 1) t (omega arith) in
        (t, omega arith)

    module _ (q : at top low ≤ en n) where
      past : free ≤ en n
      past =
          ⊎_elim (λ (o : en n < free). absurd (omega (arith, I.written.full (en n) (last_le R n h) o, I.count (en n) (last_le R n h), above_some top c (en n) low I.low_at.within q)))
          (λ o. o) (lt_or_ge (en n) free)

      same : (s : ℕ) → s < en n → load_to en ex (n + 1) s ≡ load_to en ex n s
      same s l = omega (arith, load_next en ex n s, covered_before (en n) (ex n) s l)

      grow : (s : ℕ) → load_to en ex n s ≤ load_to en ex (n + 1) s
      grow s = omega (arith, load_next en ex n s)

      -- the least kept exit is past, so the new one takes its place
      counted : (s : ℕ) → en n ≤ s → load_to en ex (n + 1) s ≡ above (set top low (ex n)) c s
      counted s l =
          omega (arith, load_next en ex n s, covered_from (en n) (ex n) s l, I.count s (omega (arith, last_le R n h)), above_set top c s low (ex n) I.low_at.within (omega (arith, I.low_at.within, I.len_top)), over_no (at top low) s (omega arith))

      fitted : (s : ℕ) → load_to en ex (n + 1) s ≤ c
      fitted s = ⊎_elim (λ (l : s < en n). omega (arith, same s l, I.fits s)) (λ (l : en n ≤ s). omega (arith, counted s l, above_le (set top low (ex n)) c s)) (lt_or_ge s (en n))

      module _ {low' : ℕ} (A : LeastAt (set top low (ex n)) c low') where
        next : {free' w' : ℕ} {S' E' P' : List ℕ} → length S' ≡ 1280 → length E' ≡ 1280 → length P' ≡ 1280 → w' ≤ from + (n + 1) → free' ≤ day
            → Written (load_to en ex (n + 1)) c d p from was (en n) free' w' (span_at P' S' E') → State en ex c d p from was (n + 1) (set top low (ex n)) low' free' w' S' E' P'
        next lS lE lP f g v = record {
          len_top = length-set top low (ex n) ∙ I.len_top;
          len_s = lS;
          len_e = lE;
          len_p = lP;
          low_at = A;
          count = λ s l. counted s (omega (arith, last_next en n));
          fits = fitted;
          few = f;
          ends = g;
          written = rw (last_next en n) v;
        }

        pub state_room : at (set top low (ex n)) low' ≤ en n → State en ex c d p from was (n + 1) (set top low (ex n)) low' free w S E P
        state_room k = next I.len_s I.len_e I.len_p (omega (arith, I.few)) I.ends
            (written_room same grow I.written past dp (λ s l. omega (arith, counted s l, above_some (set top low (ex n)) c s low' A.within (omega arith))))

        module _ (k : en n < at (set top low (ex n)) low') where
          none : (s : ℕ) → en n ≤ s → s < at (set top low (ex n)) low' → c ≤ load_to en ex (n + 1) s
          none s l m = omega (arith, counted s l, above_all (set top low (ex n)) c s (λ j o. omega (arith, A.least j o)))

          some_room : (s : ℕ) → at (set top low (ex n)) low' ≤ s → load_to en ex (n + 1) s < c
          some_room s l = omega (arith, counted s (omega arith), above_some (set top low (ex n)) c s low' A.within l)

          t_day : en n < day
          t_day = omega (arith, R.lasts n h, R.in_day n h)

          ends_at : at (set top low (ex n)) low' ≤ day
          ends_at = omega (arith, A.least low I.low_at.within, get_or-set_same top low (ex n) 0 (omega (arith, I.low_at.within, I.len_top)), R.in_day n h)

          pub state_short : en n < free + d → State en ex c d p from was (n + 1) (set top low (ex n)) low' (at (set top low (ex n)) low') w S E P
          state_short z = next I.len_s I.len_e I.len_p (omega (arith, I.few)) ends_at (written_short same grow I.written past dp k t_day none some_room z)

          pub state_more : free + d ≤ en n → w < 1280
              → State en ex c d p from was (n + 1) (set top low (ex n)) low' (at (set top low (ex n)) low') (w + 1) (set S w free) (set E w (en n)) (set P w p)
          state_more z m = next (length-set S w free ∙ I.len_s) (length-set E w (en n) ∙ I.len_e) (length-set P w p ∙ I.len_p) (omega (arith, I.few)) ends_at
              (written_more same grow I.written past dp k t_day none some_room z (put_arrays S E P w p free (en n) (omega (arith, I.len_s)) (omega (arith, I.len_e)) (omega (arith, I.len_p))))

-- the answers

pub answer_over : {L : ℕ → ℕ} {c d p from n : ℕ} {was : ℕ → Span} {S E P : List ℕ} → length S ≡ 1280 → length E ≡ 1280 → length P ≡ 1280 → (t : ℕ) × (c < L t) → Sweep L c d p from n was None S E P
answer_over lS lE lP z = record { len_s = lS; len_e = lE; len_p = lP; bound = λ w e. cc; overfull = λ _. z; fits = λ w e. cc; few = λ w e. cc; swept = λ w e. cc }

-- what is true of the number that is returned
pub of_some : (Q : ℕ → Type 0) {w : ℕ} → Q w → (v : ℕ) → Some w ≡ Some v → Q v
of_some Q {w} q v e = let z : w ≡ v = cc in subst Q z q

-- all n rows are swept
module _ {en ex : ℕ → ℕ} {c d p from n i : ℕ} {was : ℕ → Span} {top : List ℕ} {low free w : ℕ} {S E P : List ℕ}
    (dp : 1 ≤ d) (m : from + n < 1280) (e : i ≡ n) (I : State en ex c d p from was i top low free w S E P) where
  answer : {w' : ℕ} {S' E' P' : List ℕ} → length S' ≡ 1280 → length E' ≡ 1280 → length P' ≡ 1280 → w' ≤ w + 1 → Swept (load_to en ex i) c d p from was w' (span_at P' S' E')
      → Sweep (load_to en ex n) c d p from n was (Some w') S' E' P'
  answer {w'} {S'} {E'} {P'} lS lE lP f s = subst (λ j. Sweep (load_to en ex j) c d p from j was (Some w') S' E' P') e (record {
    len_s = lS;
    len_e = lE;
    len_p = lP;
    bound = of_some (λ v. v ≤ 1280) (omega (arith, I.few));
    overfull = λ q. cc;
    fits = λ _ _. I.fits;
    few = of_some (λ v. v ≤ from + i + 1) (omega (arith, I.few));
    swept = of_some (λ v. Swept (load_to en ex i) c d p from was v (span_at P' S' E')) s;
  })

  pub answer_short : day < free + d → Sweep (load_to en ex n) c d p from n was (Some w) S E P
  answer_short k = answer I.len_s I.len_e I.len_p (omega arith) (swept_short I.written dp k)

  pub answer_more : free + d ≤ day → Sweep (load_to en ex n) c d p from n was (Some (w + 1)) (set S w free) (set E w day) (set P w p)
  answer_more k = answer (length-set S w free ∙ I.len_s) (length-set E w day ∙ I.len_e) (length-set P w p ∙ I.len_p) (omega arith)
      (swept_more I.written dp k (put_arrays S E P w p free day (omega (arith, I.few, I.len_s)) (omega (arith, I.few, I.len_e)) (omega (arith, I.few, I.len_p))))
