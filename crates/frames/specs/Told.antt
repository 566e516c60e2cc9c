-- What a function that answers leaves: the answer's bytes at the front of the caller's list, their number, and the rest as it was.
use Rattle.std.specs.Prelude.{ℕ, ◌+◌, ◌*◌, ◌≤◌, ◌≡◌, refl, Bool, List, ◌++◌, length, take, drop}
use Rattle.std.proofs.Common.{sym, ap₂, ◌∙◌, arith, length-append}
use Rattle.rules.specs.declared.State.{State}
use Rattle.rules.specs.Bytes.{row_size, row_line_size, answer_room}
use Rattle.rules.specs.Frames.{line_of, row_lines}
use Rattle.rules.specs.declared.Told.{Told}
use Rattle.rules.specs.Program.{Silent, Spoken}
use Rattle.frames.specs.Put.{Put, RowsPut, put_more, put_front, put_rest, line_long, rows_long}

-- these bytes, so many of them
pub record Answers (said was out : List ℕ) (len : ℕ) : Type 0 where
  pub put : Put said 0 was out
  pub count : len ≡ length said

-- this state, and so many bytes
abbrev pub told : State → ℕ → Told
told s len = record { state = s; len = len }

-- its map and book, the map closed or not, and so many bytes
abbrev pub kept : State → Bool → ℕ → Told
kept s closed len = record { state = record { map = s.map; book = s.book; closed = closed }; len = len }

pub silent : (s : State) (was : List ℕ) → Silent s was was (record { state = s; len = 0 })
silent s was = record { stays = refl; none = refl; same = refl }

pub spoken : (P : State → List ℕ → Type 0) {said was out : List ℕ} (s : State) (len : ℕ) → Answers said was out len → length said ≤ answer_room → P s said
    → Spoken P was out (record { state = s; len = len })
spoken P {said} {was} {out} s len A h p = record {
  says = rw (A.count, put_front A.put) p;
  kept = rw A.count (put_rest A.put);
  fits = omega (arith, A.count);
  long = A.put.long;
}

pub spoken_so : {P Q : State → List ℕ → Type 0} {was out : List ℕ} {r : Told} → ((s : State) (said : List ℕ) → P s said → Q s said) → Spoken P was out r → Spoken Q was out r
spoken_so f S = record { says = f _ _ S.says; kept = S.kept; fits = S.fits; long = S.long }

-- a first line, and row lines behind it
pub answer_lines : (head list : List ℕ) (n rows : ℕ) {was mid out : List ℕ} → n ≤ length head → 2 * n + 1 ≤ length was → row_size * rows ≤ length list
    → Put (line_of (take n (drop 0 head))) 0 was mid → RowsPut list rows (2 * n + 1) mid out
    → Answers (line_of (take n head) ++ row_lines rows list) was out (2 * n + 1 + row_line_size * rows)
answer_lines head list n rows {was} {mid} {out} h g k P R =
    let e : length (line_of (take n head)) ≡ 2 * n + 1 = line_long head 0 n (omega arith) in
    let z : 0 + length (line_of (take n head)) ≡ 2 * n + 1 = omega arith in
    record {
      put = put_more (omega arith) P (rw z R.put);
      count = sym (length-append (line_of (take n head)) (row_lines rows list) ∙ ap₂ ◌+◌ e (rows_long rows list k));
    }
