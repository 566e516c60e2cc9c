-- From the search to the plan: the trail to the window that the search found is the chosen plan, and where it found none no plan is permitted.
-- A node's first entry is its window's earliest entry; its best predecessor is the window before; the number order is (place, window start).
use Rattle.std.specs.Prelude.{ℕ, zero, suc, ◌+◌, ◌≤◌, ◌<◌, ◌≡◌, None, List, [], ◌∷◌, length}
use Rattle.std.proofs.Common.{sym, ap, subst, subst₂, ◌∙◌, ⊎_elim, arith, eqb-true, eq-eqb}
use Rattle.laws.specs.Order.{lt_or_ge, eq_or_ne}
use Rattle.laws.specs.Lists.{at}
use Rattle.rules.specs.declared.Row.{Row}
use Rattle.rules.specs.Limits.{day}
use Rattle.rules.specs.Map.{Yard}
use Rattle.rules.specs.Rows.{load}
use Rattle.rules.specs.Plan.{Stay, Permitted}
use Rattle.rules.specs.Window.{Span, Window, Step, Earliest, Entries, Yields}
use Rattle.rules.specs.Chosen.{LexLe, Goal, Prior, Back, first, prior, Chosen}
use Rattle.lanes.specs.Yards.{YardRules, yard_rules}
use Rattle.lanes.specs.Windows.{stay_in}
use Rattle.lanes.specs.Reach.{begin, Enter, next, next_low, next_step}
use Rattle.lanes.specs.Nodes.{Windows, enter_node, first_soonest, soonest_first}
use Rattle.lanes.specs.Best.{plan_last, enters_enter, earliest_soonest, soonest_earliest}
use Rattle.lanes.specs.Entries.{known_entries, none_enters}
use Rattle.label.specs.Label.{First, Best, Ahead, Backs, OnWay, self, back, Sought, at_lt, at_ge}
use Rattle.flat.specs.Flat.{yard_in, Of, span_at}
use Rattle.flat.specs.Laws.{yard_of}
use Rattle.flat.specs.Links.{group_in}
use Rattle.settle.specs.Search.{bef_of, Reached, Unreached}
use Rattle.search.specs.Offers.{Begins, BeginsAt}
use Rattle.search.specs.Relax.{next_by}
use Rattle.search.specs.Lanes.{Lanes, is_at_dest, lanes_mono, lanes_later}
use Rattle.search.specs.Trail.{Trail, root, back as behind}

-- the stays of a trail of windows: each until the next one's entry, the last for its place's duration
abbrev pub stay_of : List ℕ → List ℕ → ℕ → ℕ → Stay
stay_of P lab w exit = record { place = at P w; entry = at lab w; exit = exit }

abbrev pub plan_of : List ℕ → List ℕ → List ℕ → List ℕ → List Stay
plan_of D P lab [] = []
plan_of D P lab (w ∷ []) = stay_of P lab w (at lab w + at D (at P w)) ∷ []
plan_of D P lab (w ∷ (v ∷ path)) = stay_of P lab w (at lab v) ∷ plan_of D P lab (v ∷ path)

-- windows below m, entered within the day
pub record OnDay (m : ℕ) (lab path : List ℕ) : Type 0 where
  pub window : (i : ℕ) → i < length path → at path i < m
  pub label : (i : ℕ) → i < length path → at lab (at path i) < 86401

day_cons : {m v : ℕ} {lab path : List ℕ} → v < m → at lab v < 86401 → OnDay m lab path → OnDay m lab (v ∷ path)
day_cons {m} {v} {lab} {path} h k g = record { window = window; label = label }
  where
    window : (i : ℕ) → i < length (v ∷ path) → at (v ∷ path) i < m
    window zero x = h
    window (suc i) x = g.window i (omega arith)

    label : (i : ℕ) → i < length (v ∷ path) → at lab (at (v ∷ path) i) < 86401
    label zero x = k
    label (suc i) x = g.label i (omega arith)

module _
    {C D F T H N : List ℕ} {n k : ℕ} {rows : List Row} {c : ℕ} {P S E I : List ℕ} {m : ℕ}
    (L : Lanes C D F T H N n k rows c P S E I m)
    (booked : (p t : ℕ) → p < (yard_in C D n F T k).places → load rows p t ≤ (yard_in C D n F T k).cap p)
    (start dest s : ℕ)
    (start-on : start < n)
    (dest-on : dest < n)
  where
    abbrev Y : Yard
    Y = yard_in C D n F T k

    abbrev win : ℕ → Span
    win = span_at P S E

    rules : YardRules Y
    rules = yard_rules L.rules

    yard : Of Y C D n
    yard = yard_of C D F T n k L.rules

    W : Windows Y rows m win
    W = L.windows

    -- a plan's first stay lies in a window of the start that may be entered at s, wherever the plan leads
    none_goes : BeginsAt S E (at I start) (at I (start + 1)) s (at D start) None → (goal : ℕ) (plan : List Stay) → Permitted Y rows start goal s plan → ⊥
    none_goes B goal plan P' =
        let h : 0 < length plan = P'.run.some in
        let w = stay_in P' 0 h in
        let q = P'.first_place in
        let x : Window Y rows start w.start w.end = rw q at w.window in
        let f = W.all (record { place = start; from = w.start; to = w.end }) x in
        let i = f.0 in
        let pi : at P i ≡ start = ap (λ (v : Span). v.place) f.2 in
        let g = group_in L.by_place i start f.1 pi in
        let l = P'.run.lasts 0 h in
        let d = yard.durs start start-on in
        let dq = ap Y.dur q in
        let a = P'.first_entry in
        B i g.0 g.1
        (omega (arith, ap (λ (v : Span). v.from) f.2, w.from))
        (omega (arith, ap (λ (v : Span). v.to) f.2, w.to))

    pub none_begins : BeginsAt S E (at I start) (at I (start + 1)) s (at D start) None → (plan : List Stay) → Permitted Y rows start dest s plan → ⊥
    none_begins B = none_goes B dest

    -- then no window is entered, and every label is the mark
    pub entries_unbegun : BeginsAt S E (at I start) (at I (start + 1)) s (at D start) None → {label : ℕ → ℕ} → ((v : ℕ) → v < 1280 → label v ≡ 86401)
        → Entries Y rows start s m win label day
    entries_unbegun B far = none_enters Y rows start s m win (λ i h. omega (arith, far i (omega (arith, L.few)))) (λ i t h n. none_goes B (win i).place n.plan n.permitted)

    module _ {src : ℕ} (s-in : s ≤ day) (B : Begins S E (at I start) (at I (start + 1)) s (at D start) src) where
      pub src_in : src < m
      src_in = omega (arith, B.to, L.by_place.ends, ends_le)
        where
          ends_le : at I (start + 1) ≤ m
          ends_le = Rattle.flat.specs.Links.group_end L.by_place (start + 1) (omega arith)

      pub src_place : at P src ≡ start
      src_place = L.by_place.of start src start-on (B.from) (B.to)

      pub src_enter : Enter Y rows start s (win src) s
      src_enter = record {
        is = W.are src src_in;
        reach = rw src_place begin;
        from = B.begun;
        fits = omega (arith, B.fits, yard.durs start start-on, ap Y.dur src_place);
      }

      module _ {lab : List ℕ} (A : Unreached m (next_by Y rows P S E) (is_at_dest P dest) src s lab) where
        -- no destination window is entered: no plan
        pub none_found : (plan : List Stay) → Permitted Y rows start dest s plan → ⊥
        none_found plan P' =
            let l = plan_last Y rows start s plan P' in
            let f = W.all l.w l.enters.window in
            let i = f.0 in
            let t : Enter Y rows start s (win i) l.entry = rw f.2 (enters_enter Y rows start s l.enters) in
            let z = enter_node Y rows start s m win W rules.long src src_in src_enter src_place l.entry i f.1 t in
            A.none i z.at (eq-eqb (at P i) dest (ap (λ (v : Span). v.place) f.2 ∙ l.at_dest)) z.node

        -- "each with its earliest entry: the least second at which any permitted plan's beginning can enter it": all windows, of the whole day,
        -- where the search found no destination window ..
        pub entries_none : Entries Y rows start s m win (at lab) day
        entries_none = known_entries Y rows start s m win W rules booked src src_in src_enter src_place A.known_all

      module _ {lab bef : List ℕ} {r : ℕ} (A : Reached m (next_by Y rows P S E) (is_at_dest P dest) src s lab bef r) where
        -- .. or up to the entry into the one where it stopped
        pub entries_found : Entries Y rows start s m win (at lab) (at lab r)
        entries_found = known_entries Y rows start s m win W rules booked src src_in src_enter src_place A.known

        backs : Backs m 86401 src s (next_by Y rows P S E) (OnWay m 86401 src s (next_by Y rows P S E) (bef_of bef) r) (λ v. at lab v) (bef_of bef)
        backs = A.backs

        sought : Sought m 86401 src s (next_by Y rows P S E) (is_at_dest P dest) r (at lab r)
        sought = A.sought

        earliest_of : {v e : ℕ} → v < m → First m 86401 src s (next_by Y rows P S E) v e → Earliest Y rows start s (win v) e
        earliest_of {v} {e} k f = soonest_earliest Y rows start s rules booked (first_soonest Y rows start s m win W rules.long src src_in src_enter src_place v e k f)

        goal : Goal Y rows start dest s (win r) (at lab r)
        goal = record {
          at_dest = eqb-true (at P r) dest sought.wanted;
          earliest = earliest_of sought.within sought.first;
          least = λ v t q n.
              let f = W.all v n.window in
              let i = f.0 in
              let z = enter_node Y rows start s m win W rules.long src src_in src_enter src_place t i f.1 (rw f.2 (enters_enter Y rows start s n)) in
              omega (arith, z.no_later, (sought.least i z.at (eq-eqb (at P i) dest (ap (λ (x : Span). x.place) f.2 ∙ q)) z.node).le);
        }

        yields_of : (v w : ℕ) {e t : ℕ} → next_by Y rows P S E w v e ≡ t → t < 86401 → Yields Y rows (win w) (win v) e t
        yields_of v w {e} {t} q b = record {
          step = subst (Step Y rows (win w) (win v) e) q (next_step Y rows (win w) (win v) e (omega arith));
          least = λ x k. omega (arith, next_low Y rows (win w) (win v) e x k);
        }

        of_yields : (v w : ℕ) {e t : ℕ} → w < m → Yields Y rows (win w) (win v) e t → next_by Y rows P S E w v e ≡ t
        of_yields v w {e} {t} k y =
            let a = next_low Y rows (win w) (win v) e t y.step in
            let o = (W.are w k).in_day in
            let z = y.step.before in
            omega (arith, y.least (next Y rows (win w) (win v) e) (next_step Y rows (win w) (win v) e (omega arith)))

        -- the order of numbers is the order of place and start
        lex : {e d b j : ℕ} → b < m → j < m → Ahead e b d j → LexLe e (at P b) (at S b) d (at P j) (at S j)
        lex {e} {d} {b} {j} kb kj a = record {
          one = a.le;
          two = λ q. ⊎_elim (λ (x : b < j). W.by_place b j x kj) (λ (x : j ≤ b). let z : b ≡ j = omega (arith, a.tie (omega arith)) in omega (arith, ap (at P) z)) (lt_or_ge b j);
          three = λ q p. ⊎_elim (λ (x : b < j). omega (arith, W.by_start b j x kj p)) (λ (x : j ≤ b). let z : b ≡ j = omega (arith, a.tie (omega arith)) in omega (arith, ap (at S) z)) (lt_or_ge b j);
        }

        prior_of : {v b e t : ℕ} → t < 86401 → Best m 86401 src s (next_by Y rows P S E) v b e t → Prior Y rows start dest s (win v) t (win b) e
        prior_of {v} {b} {e} {t} lt Q = record {
          earliest = earliest_of Q.within Q.first;
          yields = yields_of v b Q.yields lt;
          least = λ x d q y.
              let f = W.all x q.enters.window in
              let j = f.0 in
              let kj = f.1 in
              let g = soonest_first Y rows start s m win W rules.long src src_in src_enter src_place j d kj (rw f.2 (earliest_soonest Y rows start s rules booked q)) in
              subst (λ (z : Span). LexLe e (at P b) (at S b) d z.place z.from) f.2 (lex Q.within kj (Q.soonest j d kj g (of_yields v j kj (subst (λ z. Yields Y rows z (win v) d t) (sym f.2) y))));
        }

        below_top : {v : ℕ} → v < m → OnWay m 86401 src s (next_by Y rows P S E) (bef_of bef) r v → at lab v < 86401
        below_top {v} k o = at_lt m 86401 src s (next_by Y rows P S E) (omega arith) (backs.first v k o).at

        -- along the trail each window before is the document's
        walked : {v : ℕ} {after path : List ℕ} → v < m → OnWay m 86401 src s (next_by Y rows P S E) (bef_of bef) r v → Trail bef v after path
            → Back Y rows start dest s (win v) (at lab v) (plan_of D P lab (v ∷ after)) (plan_of D P lab path)
        walked {v} k o (root e) =
            ⊎_elim (λ (q : v ≡ src). first (ap (at P) q ∙ src_place) (ap (at lab) q ∙ backs.start))
            (λ (q : v ≡ src → ⊥). absurd (omega (arith, A.tied v k (below_top k o) q)))
            (eq_or_ne v src)
        walked {v} k o (behind z t) =
            let ne : v ≡ src → ⊥ = λ q. omega (arith, A.begun, ap (at bef) q) in
            let Q = backs.best v k o ne in
            let fb = backs.falls v k o ne in
            let ge = at_ge m 86401 src s (next_by Y rows P S E) src_in (omega arith) (lanes_mono L) (lanes_later L) Q.first.at in
            let lt : s < at lab v = omega arith in
            prior lt (prior_of (below_top k o) Q) (walked Q.within (back o ne) t)

        pub found_chosen : {path : List ℕ} → Trail bef r [] path → Chosen Y rows start dest s (plan_of D P lab path)
        found_chosen {path} t =
            let q : at P r ≡ dest = goal.at_dest in
            let d : at D (at P r) ≡ Y.dur dest = ap (at D) q ∙ sym (yard.durs dest dest-on) in
            record {
              w = win r;
              e = at lab r;
              goal = goal;
              back = subst₂ (λ (x y : ℕ). Back Y rows start dest s (win r) (at lab r) (record { place = x; entry = at lab r; exit = at lab r + y } ∷ []) (plan_of D P lab path)) q d (walked sought.within self t);
            }

        -- each window of the trail is one, entered within the day
        pub trail_good : {v : ℕ} {after path : List ℕ} → v < m → OnWay m 86401 src s (next_by Y rows P S E) (bef_of bef) r v → Trail bef v after path → OnDay m lab after → OnDay m lab path
        trail_good {v} k o (root e) g = day_cons k (below_top k o) g
        trail_good {v} k o (behind z t) g =
            let ne : v ≡ src → ⊥ = λ q. omega (arith, A.begun, ap (at bef) q) in
            trail_good (backs.best v k o ne).within (back o ne) t (day_cons k (below_top k o) g)

        pub found_good : {path : List ℕ} → Trail bef r [] path → OnDay m lab path
        found_good t = trail_good sought.within self t (record { window = λ i x. absurd (omega arith); label = λ i x. absurd (omega arith) })
