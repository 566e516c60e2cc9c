-- What the sweep of one place asks and answers: its load as a function of the second, its free windows as the longest stretches where that load
-- is below capacity, and the windows written.
use Rattle.std.specs.Prelude.{ℕ, suc, ◌+◌, ◌-◌, ◌≤◌, ◌<◌, ◌≡◌, ◌&&◌, List, length, leb, ltb, Option, None, Some}
use Rattle.laws.specs.Lists.{at}
use Rattle.rules.specs.Limits.{day}
use Rattle.rules.specs.Rows.{bit}
use Rattle.rules.specs.Window.{Span}
use Rattle.flat.specs.Flat.{entry_of, exit_of, span_at}
use Rattle.windows.specs.Sums.{sum}

-- a longest stretch a to b of the day, at least d long, where the load L is below c
pub record FreeStretch (L : ℕ → ℕ) (c d a b : ℕ) : Type 0 where
  pub in_day : b ≤ day
  pub long : a + d ≤ b
  pub free : (t : ℕ) → a ≤ t → t < b → L t < c
  pub left : (x : ℕ) → suc x ≡ a → c ≤ L x
  pub right : b < day → c ≤ L b

-- 1 where a stay from e to x covers second t
unfoldable pub covered : ℕ → ℕ → ℕ → ℕ
covered e x t = bit (leb e t && ltb t x)

-- how many of the rows 0 .. n - 1, row i from en i to ex i, cover second t
unfoldable pub load_to : (ℕ → ℕ) → (ℕ → ℕ) → ℕ → ℕ → ℕ
load_to en ex n t = sum (λ i. covered (en i) (ex i) t) n

-- entries and exits of the rows from row a on
abbrev pub entries_from : List ℕ → ℕ → ℕ → ℕ
entries_from K a i = entry_of (at K (a + i))

abbrev pub exits_from : List ℕ → ℕ → ℕ → ℕ
exits_from X a i = exit_of (at X (a + i))

-- how many of the rows a .. b - 1 cover second t
abbrev pub run_load : List ℕ → List ℕ → ℕ → ℕ → ℕ → ℕ
run_load K X a b t = load_to (entries_from K a) (exits_from X a) (b - a) t

-- rows in order of entry, each within the day
pub record InOrder (en ex : ℕ → ℕ) (n : ℕ) : Type 0 where
  pub sorted : (i : ℕ) → suc i < n → en i ≤ en (suc i)
  pub lasts : (i : ℕ) → i < n → en i < ex i
  pub in_day : (i : ℕ) → i < n → ex i ≤ day

-- the rows a .. b - 1 of a place of capacity c and duration d can be swept, its windows written from number `from` on
pub record Sweepable (K X : List ℕ) (a b c d from : ℕ) : Type 0 where
  pub up : a ≤ b
  pub within : b ≤ 1024
  pub cap_from : 1 ≤ c
  pub cap_to : c ≤ 16
  pub dur_from : 1 ≤ d
  pub dur_to : d ≤ 3600
  pub spare : from + (b - a) < 1280
  pub rows : InOrder (entries_from K a) (exits_from X a) (b - a)

abbrev pub span : ℕ → ℕ → ℕ → Span
span p a b = record { place = p; from = a; to = b }

-- window v has one of the numbers from .. w - 1
pub record Found (win : ℕ → Span) (from w : ℕ) (v : Span) : Type 0 where
  pub i : ℕ
  pub lo : from ≤ i
  pub hi : i < w
  pub is : win i ≡ v

-- the free windows of place p, all and only, in rising order, have the numbers from .. w - 1, and those before are as they were
pub record Swept (L : ℕ → ℕ) (c d p from : ℕ) (was : ℕ → Span) (w : ℕ) (win : ℕ → Span) : Type 0 where
  pub some : from ≤ w
  pub placed : (i : ℕ) → from ≤ i → i < w → (win i).place ≡ p
  pub are : (i : ℕ) → from ≤ i → i < w → FreeStretch L c d (win i).from (win i).to
  pub all : (a b : ℕ) → FreeStretch L c d a b → Found win from w (span p a b)
  pub rise : (i j : ℕ) → from ≤ i → i < j → j < w → (win i).to < (win j).from
  pub kept : (i : ℕ) → i < from → win i ≡ was i

-- what the sweep answers: None exactly where some second is overfull, else the number after the last window
pub record Sweep (L : ℕ → ℕ) (c d p from n : ℕ) (was : ℕ → Span) (r : Option ℕ) (S E P : List ℕ) : Type 0 where
  pub len_s : length S ≡ 1280
  pub len_e : length E ≡ 1280
  pub len_p : length P ≡ 1280
  pub bound : (w : ℕ) → r ≡ Some w → w ≤ 1280
  pub overfull : r ≡ None → (t : ℕ) × (c < L t)
  pub fits : (w : ℕ) → r ≡ Some w → (t : ℕ) → L t ≤ c
  pub few : (w : ℕ) → r ≡ Some w → w ≤ from + n + 1
  pub swept : (w : ℕ) → r ≡ Some w → Swept L c d p from was w (span_at P S E)

-- the first c of the kept exits have their least at r
pub record LeastAt (top : List ℕ) (c r : ℕ) : Type 0 where
  pub within : r < c
  pub least : (k : ℕ) → k < c → at top r ≤ at top k
