-- Free windows and their earliest entries.
use Rattle.std.specs.Prelude.{ℕ, suc, ◌+◌, ◌≤◌, ◌<◌, ◌≡◌, true, List, length}
use Rattle.rules.specs.declared.Row.{Row}
use Rattle.rules.specs.Limits.{day}
use Rattle.rules.specs.Map.{Yard}
use Rattle.rules.specs.Rows.{load, Barred}
use Rattle.rules.specs.Plan.{Stay, stay_at, Permitted}

-- every second of a to b-1 has a booked load below capacity
abbrev pub Free : Yard → List Row → ℕ → ℕ → ℕ → Type 0
Free Y rows p a b = (t : ℕ) → a ≤ t → t < b → load rows p t < Y.cap p

-- "A free window of a place is a longest stretch a to b within 0 to 86,400 whose every second has a booked load below capacity,
-- with b-a at least the duration d."
pub record Window (Y : Yard) (rows : List Row) (p a b : ℕ) : Type 0 where
  pub in_day : b ≤ day
  pub long : a + Y.dur p ≤ b
  pub free : Free Y rows p a b
  -- longest: it begins with the day or after a full second, and ends with the day or before one
  pub left : (c : ℕ) → suc c ≡ a → Y.cap p ≤ load rows p c
  pub right : b < day → Y.cap p ≤ load rows p b

pub record Span : Type 0 where
  pub place : ℕ
  pub from : ℕ
  pub to : ℕ

-- "It may be entered from a to b-d": some permitted plan's beginning enters window w at second t.
-- The beginning is itself a permitted plan to the window's place, entered at t by its last stay.
pub record Enters (Y : Yard) (rows : List Row) (start s : ℕ) (w : Span) (t : ℕ) : Type 0 where
  pub window : Window Y rows w.place w.from w.to
  pub from : w.from ≤ t
  pub to : t + Y.dur w.place ≤ w.to
  pub plan : List Stay
  pub permitted : Permitted Y rows start w.place s plan
  pub entered : (i : ℕ) → suc i ≡ length plan → (stay_at plan i).entry ≡ t

-- "its earliest entry: the least second at which any permitted plan's beginning can enter it"
pub record Earliest (Y : Yard) (rows : List Row) (start s : ℕ) (w : Span) (e : ℕ) : Type 0 where
  pub enters : Enters Y rows start s w e
  pub least : (t : ℕ) → Enters Y rows start s w t → e ≤ t

-- All windows, "each with its earliest entry: the least second at which any permitted plan's beginning can enter it", up to second b: a window
-- whose label is at most b has it as its earliest entry, and a window of a later label is entered only after b. With b the day's last second
-- these are all earliest entries, and a window whose label is the mark 86,401 is never entered.
pub record Entries (Y : Yard) (rows : List Row) (start s n : ℕ) (win : ℕ → Span) (label : ℕ → ℕ) (b : ℕ) : Type 0 where
  pub earliest : (i : ℕ) → i < n → label i ≤ b → Earliest Y rows start s (win i) (label i)
  pub after : (i t : ℕ) → i < n → b < label i → Enters Y rows start s (win i) t → b < t

-- a wagon that entered window w at e may go on into window v at u:
-- "out of those that both windows and the duration allow", "not barred"
pub record Step (Y : Yard) (rows : List Row) (w v : Span) (e u : ℕ) : Type 0 where
  pub linked : Y.link w.place v.place ≡ true
  pub after : e + Y.dur w.place ≤ u
  pub before : u ≤ w.to
  pub from : v.from ≤ u
  pub fits : u + Y.dur v.place ≤ v.to
  pub clear : Barred rows w.place v.place u → ⊥

-- "From a window, itself entered at its earliest entry, into another, the entry is the least second .."
pub record Yields (Y : Yard) (rows : List Row) (w v : Span) (e u : ℕ) : Type 0 where
  pub step : Step Y rows w v e u
  pub least : (x : ℕ) → Step Y rows w v e x → u ≤ x
