-- The chosen plan among those that arrive equally early.
use Rattle.std.specs.Prelude.{ℕ, ◌+◌, ◌≤◌, ◌<◌, ◌≡◌, List, [], ◌∷◌}
use Rattle.rules.specs.declared.Row.{Row}
use Rattle.rules.specs.Map.{Yard}
use Rattle.rules.specs.Plan.{Stay}
use Rattle.rules.specs.Window.{Span, Enters, Earliest, Yields}

-- (a, b, c) is at most (a', b', c'), compared in that order
pub record LexLe (a b c a' b' c' : ℕ) : Type 0 where
  pub one : a ≤ a'
  pub two : a ≡ a' → b ≤ b'
  pub three : a ≡ a' → b ≡ b' → c ≤ c'

module _ (Y : Yard) (rows : List Row) (start dest s : ℕ) where
  -- "The chosen one ends in the destination window of least earliest entry": no window of the destination is entered sooner.
  pub record Goal (w : Span) (e : ℕ) : Type 0 where
    pub at_dest : w.place ≡ dest
    pub earliest : Earliest Y rows start s w e
    pub least : (v : Span) (t : ℕ) → v.place ≡ dest → Enters Y rows start s v t → e ≤ t

  -- "The window before any window is the one that yields its earliest entry; among several, the one with the least
  -- (earliest entry, place, window start)."
  pub record Prior (v : Span) (u : ℕ) (w : Span) (e : ℕ) : Type 0 where
    pub earliest : Earliest Y rows start s w e
    pub yields : Yields Y rows w v e u
    pub least : (x : Span) (d : ℕ) → Earliest Y rows start s x d → Yields Y rows x v d u → LexLe e w.place w.from d x.place x.from

  -- "The chain is walked back from the destination, and entry times fall at each step": from v, entered at u, with the stays after it.
  -- "The window of the first stay is entered at s and has none before it. Each window is entered at its earliest entry."
  pub data Back : Span → ℕ → List Stay → List Stay → Type 0 where
    first : {v : Span} {u : ℕ} {after : List Stay} → v.place ≡ start → u ≡ s → Back v u after after
    prior : {v w : Span} {u e : ℕ} {after plan : List Stay} → s < u → Prior v u w e
        → Back w e (record { place = w.place; entry = e; exit = u } ∷ after) plan → Back v u after plan

  pub record Chosen (plan : List Stay) : Type 0 where
    pub w : Span
    pub e : ℕ
    pub goal : Goal w e
    pub back : Back w e (record { place = dest; entry = e; exit = e + Y.dur dest } ∷ []) plan
