-- A plan, and when it is permitted beside a book.
use Rattle.std.specs.Prelude.{ℕ, suc, ◌+◌, ◌≤◌, ◌<◌, ◌≡◌, true, List, [], ◌∷◌, length, get_or}
use Rattle.rules.specs.declared.Row.{Row}
use Rattle.rules.specs.Limits.{day}
use Rattle.rules.specs.Map.{Yard}
use Rattle.rules.specs.Rows.{row, covers, bit, load, Barred}

pub record Stay : Type 0 where
  pub place : ℕ
  pub entry : ℕ
  pub exit : ℕ

abbrev pub no_stay : Stay
no_stay = record { place = 0; entry = 0; exit = 0 }

abbrev pub stay_at : List Stay → ℕ → Stay
stay_at plan i = get_or plan i no_stay

-- "a plan is a sequence of one or more stays"
pub record Plan (Y : Yard) (plan : List Stay) : Type 0 where
  pub some : 0 < length plan
  pub on_map : (i : ℕ) → i < length plan → (stay_at plan i).place < Y.places
  -- "each stay's exit is the next one's entry; consecutive places are linked"
  pub meets : (i : ℕ) → suc i < length plan → (stay_at plan i).exit ≡ (stay_at plan (suc i)).entry
  pub goes : (i : ℕ) → suc i < length plan → Y.link (stay_at plan i).place (stay_at plan (suc i)).place ≡ true
  -- "every stay lasts at least its place's duration, the last exactly that"
  pub lasts : (i : ℕ) → i < length plan → (stay_at plan i).entry + Y.dur (stay_at plan i).place ≤ (stay_at plan i).exit
  pub last_exact : (i : ℕ) → suc i ≡ length plan → (stay_at plan i).exit ≡ (stay_at plan i).entry + Y.dur (stay_at plan i).place
  -- "the last .. ends by 86,400"
  pub last_exit : (i : ℕ) → suc i ≡ length plan → (stay_at plan i).exit ≤ day

-- "That end is the arrival."
unfoldable pub arrival : List Stay → ℕ
arrival [] = 0
arrival (x ∷ []) = x.exit
arrival (x ∷ (y ∷ ys)) = arrival (y ∷ ys)

-- how many stays of the plan hold place p at second t
unfoldable pub held : List Stay → ℕ → ℕ → ℕ
held [] p t = 0
held (x ∷ xs) p t = bit (covers x.place x.entry x.exit p t) + held xs p t

-- a plan for the request (start, dest, s), permitted beside the rows
pub record Permitted (Y : Yard) (rows : List Row) (start dest s : ℕ) (plan : List Stay) : Type 0 where
  pub run : Plan Y plan
  -- "The first is at the start and begins at s"; "the last is at the destination"
  pub first_place : (stay_at plan 0).place ≡ start
  pub first_entry : (stay_at plan 0).entry ≡ s
  pub last_place : (i : ℕ) → suc i ≡ length plan → (stay_at plan i).place ≡ dest
  -- "load: at each second each place holds at most its capacity, booked rows and the plan's stays counted together"
  pub room : (p t : ℕ) → p < Y.places → load rows p t + held plan p t ≤ Y.cap p
  -- "exchange", which "reads the wider rule": where the plan goes from p to q at second t, that crossing is not barred
  pub exchange : (i : ℕ) → suc i < length plan → Barred rows (stay_at plan i).place (stay_at plan (suc i)).place (stay_at plan i).exit → ⊥

-- "A row holds place, entry, ticket, exit and next place. On a run's last row, next is the row's own place"
abbrev pub stay_row : ℕ → Stay → ℕ → Row
stay_row ticket x next = row x.place x.entry ticket x.exit next

-- a plan's rows under a ticket, in travel order
abbrev pub run_rows : ℕ → List Stay → List Row
run_rows ticket [] = []
run_rows ticket (x ∷ []) = stay_row ticket x x.place ∷ []
run_rows ticket (x ∷ (y ∷ ys)) = stay_row ticket x y.place ∷ run_rows ticket (y ∷ ys)
