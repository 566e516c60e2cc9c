-- Requests answered on any map beside any book: a search that nobody has to believe proposes the windows' entries and the windows before, and
-- the proved test accepts them. What it accepts is the chosen plan, or that there is none.
use Rattle.std.specs.Prelude.{ℕ, zero, suc, ◌+◌, ◌≤◌, ◌<◌, min, ◌≡◌, Bool, true, false, ◌&&◌, not, List, [], ◌∷◌, length, get_or, eqb, leb, ltb}
use Rattle.laws.specs.Tests.{and_l, and_r}
use Rattle.laws.specs.Lists.{mem_index, index_mem}
use Rattle.rules.specs.declared.Row.{Row}
use Rattle.rules.specs.Map.{Yard}
use Rattle.rules.specs.Rows.{load}
use Rattle.rules.specs.Plan.{Stay, Permitted}
use Rattle.rules.specs.Window.{Span}
use Rattle.rules.specs.Chosen.{Chosen}
use Rattle.lanes.specs.Yards.{YardRules}
use Rattle.lanes.specs.Best.{on_map}
use Rattle.cases.specs.Checks.{lex_b}
use Rattle.cases.specs.Next.{mark, least_entry}
use Rattle.cases.specs.Listing.{windows_below, windows_are, windows_all}
use Rattle.cases.specs.Entries.{no_span, entries_b, Entered, entered}
use Rattle.cases.specs.Trail.{chosen_b, none_b, chosen_is, no_plan}

-- ---- the search

module _ (Y : Yard) (B : List Row) where
  -- the least entry into v that any window yields
  into_least : List Span → List ℕ → Span → ℕ
  into_least [] d v = mark
  into_least (w ∷ ws) [] v = mark
  into_least (w ∷ ws) (e ∷ d) v = min (least_entry Y B w v e) (into_least ws d v)

  round : List Span → List ℕ → List Span → List ℕ → List ℕ
  round ws d [] es = []
  round ws d (v ∷ vs) [] = []
  round ws d (v ∷ vs) (e ∷ es) = min e (into_least ws d v) ∷ round ws d vs es

  rounds : List Span → ℕ → List ℕ → List ℕ
  rounds ws zero d = d
  rounds ws (suc k) d = rounds ws k (round ws d ws d)

  -- the entry of a first stay
  begins : ℕ → ℕ → List Span → List ℕ
  begins p s [] = []
  begins p s (v ∷ vs) = (elim (eqb v.place p && (leb v.from s && leb (s + Y.dur v.place) v.to)) [ true ↦ s | false ↦ mark ]) ∷ begins p s vs

  -- of the windows that yield v's entry u, counted from i, the one with the least (entry, place, start); b is the best so far
  best_of : List Span → List ℕ → Span → ℕ → ℕ → ℕ → ℕ → Span → ℕ
  best_of [] d v u i b be bw = b
  best_of (w ∷ ws) [] v u i b be bw = b
  best_of (w ∷ ws) (e ∷ d) v u i b be bw =
      elim (eqb (least_entry Y B w v e) u && not (lex_b be bw.place bw.from e w.place w.from)) [ true ↦ best_of ws d v u (suc i) i e w | false ↦ best_of ws d v u (suc i) b be bw ]

  priors : List Span → List ℕ → List Span → List ℕ → List ℕ
  priors ws d [] es = []
  priors ws d (v ∷ vs) [] = []
  priors ws d (v ∷ vs) (e ∷ es) = best_of ws d v e 0 (length ws) (suc mark) no_span ∷ priors ws d vs es

-- the destination's window of least entry, counted from i; b is the best so far
goal_of : ℕ → List Span → List ℕ → ℕ → ℕ → ℕ → ℕ
goal_of dest [] d i b be = b
goal_of dest (w ∷ ws) [] i b be = b
goal_of dest (w ∷ ws) (e ∷ d) i b be = elim (eqb w.place dest && ltb e be) [ true ↦ goal_of dest ws d (suc i) i e | false ↦ goal_of dest ws d (suc i) b be ]

-- ---- what is accepted

module _ (Y : Yard) (B : List Row) (start dest s : ℕ) where
  abbrev ws : List Span
  ws = windows_below Y B Y.places

  unfoldable dist : List ℕ
  unfolding rounds begins round into_least
  dist = rounds Y B ws (length ws) (begins Y B start s ws)

  unfoldable back : List ℕ
  unfolding dist priors best_of
  back = priors Y B ws dist ws dist

  unfoldable goal : ℕ
  unfolding dist goal_of
  goal = goal_of dest ws dist 0 (length ws) mark

  abbrev table_b : Bool
  table_b = entries_b Y B start s ws dist back

  abbrev plan_tests : List Stay → Bool
  plan_tests plan = chosen_b Y B start dest s ws dist back goal plan

  abbrev none_tests : Bool
  none_tests = none_b Y B start dest s ws dist back

  unfoldable pub plan_b : List Stay → Bool
  unfolding dist back goal
  plan_b plan = table_b && plan_tests plan

  unfoldable pub refused_b : Bool
  unfolding dist back goal
  refused_b = table_b && none_tests

  module _ (R : YardRules Y) (room : (p u : ℕ) → p < Y.places → load B p u ≤ Y.cap p) where
    all_entered : table_b ≡ true → Entered Y B start s ws dist
    all_entered t =
        entered back (λ i h. windows_are Y B Y.places (get_or ws i no_span) (index_mem no_span ws i h))
        (λ w x. mem_index no_span (windows_all Y B R.long Y.places w (on_map Y B start s R room x) x))
        R.long t

    pub plan_chosen : (plan : List Stay) → plan_b plan ≡ true → Chosen Y B start dest s plan
    unfolding plan_b
    plan_chosen plan t = chosen_is Y B start dest s ws dist back (all_entered (and_l table_b (plan_tests plan) t)) R room goal plan (and_r table_b (plan_tests plan) t)

    pub none_permitted : refused_b ≡ true → (plan : List Stay) → Permitted Y B start dest s plan → ⊥
    unfolding refused_b
    none_permitted t = no_plan Y B start dest s ws dist back (all_entered (and_l table_b none_tests t)) (and_r table_b none_tests t)
