-- The program's calls: a line that is answered, input that is taken in any pieces, and the end of it. What lines say stands in Frames.
use Rattle.std.specs.Prelude.{ℕ, ◌+◌, ◌-◌, ◌*◌, ◌≤◌, ◌<◌, ◌≡◌, true, false, List, [], ◌∷◌, ◌++◌, length, take, drop, set, replicate, eqb, leb}
use Rattle.std.proofs.Math.Seq.{slice}
use Rattle.rules.specs.declared.State.{State}
use Rattle.rules.specs.declared.Line.{Line}
use Rattle.rules.specs.declared.Desk.{Desk}
use Rattle.rules.specs.declared.Told.{Told}
use Rattle.rules.specs.declared.Intake.{Intake}
use Rattle.rules.specs.Bytes.{answer_room}
use Rattle.rules.specs.Gate.{Unless}
use Rattle.rules.specs.Frames.{LineSays, LinesSay, whole_lines, begun_line, last_line}

-- ---- the buffer of a line

-- what the buffer stands for: a line of at most 18 bytes, or any longer line
pub record LineIs (line : List ℕ) (l : Line) : Type 0 where
  pub short : l.len ≤ 18 → line ≡ take l.len l.digits
  pub long : 18 < l.len → 18 < length line

-- the buffer of a line that has no byte yet
abbrev pub empty_line : Line
empty_line = record { digits = replicate 18 0; len = 0 }

-- the buffer with one byte more
unfoldable pub pushed : Line → ℕ → Line
pushed l c = elim (leb 18 l.len) [ true ↦ record { digits = l.digits; len = 19 } | false ↦ record { digits = set l.digits l.len c; len = l.len + 1 } ]

-- the buffer of the line that is begun after a run of bytes
unfoldable pub line_after : Line → List ℕ → Line
line_after l [] = l
line_after l (c ∷ input) = elim (eqb c 10) [ true ↦ line_after empty_line input | false ↦ line_after (pushed l c) input ]

-- ---- one line

-- the state after and the bytes printed are as P says
pub record Spoken (P : State → List ℕ → Type 0) (was out : List ℕ) (r : Told) : Type 0 where
  pub says : P r.state (take r.len out)
  pub kept : drop r.len out ≡ drop r.len was
  pub fits : r.len ≤ answer_room
  pub long : length out ≡ length was

-- nothing is said and nothing changes
pub record Silent (s : State) (was out : List ℕ) (r : Told) : Type 0 where
  pub stays : r.state ≡ s
  pub none : r.len ≡ 0
  pub same : out ≡ was

-- for each line that the buffer stands for
abbrev pub Tells : State → Line → State → List ℕ → Type 0
Tells s l s' said = (line : List ℕ) → LineIs line l → LineSays s line s' said

-- every answer fits into answer_room bytes: a shorter list is left as it is, and the state too
abbrev pub AnswerIs : State → Line → List ℕ → List ℕ → Told → Type 0
AnswerIs s l was out r = Unless (answer_room ≤ length was) (Silent s was out r) (Spoken (Tells s l) was out r)

-- ---- input in pieces

-- what a desk makes of a run of input
pub record Feeds (d : Desk) (input : List ℕ) (d' : Desk) (said : List ℕ) : Type 0 where
  pub says : (line : List ℕ) → LineIs line d.line → LinesSay d.state (whole_lines line input) d'.state said
  pub begun : (line : List ℕ) → LineIs line d.line → LineIs (begun_line line input) d'.line
  pub line : d'.line ≡ line_after d.line input

-- how far the bytes are taken, and what is then in the list
pub record FedIs (d : Desk) (buf : List ℕ) (from : ℕ) (was out : List ℕ) (r : Intake) : Type 0 where
  pub feeds : Feeds d (slice from r.upto buf) r.desk (take r.len out)
  pub kept : drop r.len out ≡ drop r.len was
  pub long : length out ≡ length was
  pub fits : r.len ≤ length was
  pub after : from ≤ r.upto
  pub within : from ≤ length buf → r.upto ≤ length buf
  -- it stops at the end of the bytes, or where there is no room for one more answer
  pub stops : r.upto < length buf → length was < r.len + answer_room
  -- and nowhere before: each byte is taken where the answers to the bytes before it leave room for one more
  pub room : (j : ℕ) → from ≤ j → j < r.upto → (e : Desk) (said : List ℕ) → Feeds d (slice from j buf) e said → length said + answer_room ≤ length was
  -- it moves where there are bytes and room for an answer, and else takes nothing
  pub moves : answer_room ≤ length was → from < length buf → from < r.upto
  pub stays : (answer_room ≤ length was → from < length buf → ⊥) → (r.desk ≡ d) × (r.upto ≡ from) × (r.len ≡ 0)
  -- an answer takes a byte or more of the input
  pub few : r.len ≤ answer_room * (r.upto - from)

-- ---- the last line, where it lacks its line feed

abbrev pub Ends : Desk → State → List ℕ → Type 0
Ends d s said = (line : List ℕ) → LineIs line d.line → LinesSay d.state (last_line line) s said

abbrev pub EndedIs : Desk → List ℕ → List ℕ → Told → Type 0
EndedIs d was out r = Unless (answer_room ≤ length was) (Silent d.state was out r) (Spoken (Ends d) was out r)

-- ---- all input, however it is cut into reads

-- the reads, one after the other, and all that is printed
pub data Sitting : Desk → List (List ℕ) → Desk → List ℕ → Type 0 where
  done : {d : Desk} → Sitting d [] d []
  reads : {d d' d'' : Desk} {read said rest : List ℕ} {later : List (List ℕ)} → Feeds d read d' said → Sitting d' later d'' rest → Sitting d (read ∷ later) d'' (said ++ rest)

abbrev pub joined : List (List ℕ) → List ℕ
joined [] = []
joined (read ∷ later) = read ++ joined later
