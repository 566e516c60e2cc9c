-- One turn of the program: no byte of a read is left out and none is taken twice.
use Rattle.std.specs.Prelude.{ℕ, ◌≤◌, List, [], ◌++◌, length, take}
use Rattle.std.proofs.Common.{⊎_elim, arith}
use Rattle.std.proofs.Math.Seq.{slice, slice_empty}
use Rattle.rules.specs.declared.Desk.{Desk}
use Rattle.rules.specs.declared.Intake.{Intake}
use Rattle.rules.specs.declared.Told.{Told}
use Rattle.rules.specs.Program.{EndedIs, FedIs, Feeds}
use Rattle.frames.specs.Cutting.{feeds_none, feeds_append, slice_join}

-- the bytes to index i are taken, with these answers
pub record Taking (d : Desk) (buf : List ℕ) (e : Desk) (i : ℕ) : Type 0 where
  pub said : List ℕ
  pub feeds : Feeds d (slice 0 i buf) e said
  pub within : i ≤ length buf

-- all bytes are taken
pub record Took (d : Desk) (buf : List ℕ) (e : Desk) : Type 0 where
  pub said : List ℕ
  pub feeds : Feeds d buf e said

pub taking_start : (d : Desk) (buf : List ℕ) → Taking d buf d 0
taking_start d buf = record { said = []; feeds = rw (slice_empty 0 buf) (feeds_none d); within = omega arith }

pub taking_next : {d e : Desk} {buf was out : List ℕ} {i : ℕ} {r : Intake} → Taking d buf e i → FedIs e buf i was out r → Taking d buf r.desk r.upto
taking_next {d} {e} {buf} {was} {out} {i} {r} T F = record {
  said = T.said ++ take r.len out;
  feeds = rw (slice_join 0 i r.upto buf (omega arith) F.after (F.within T.within)) at (feeds_append T.feeds F.feeds);
  within = F.within T.within;
}

-- the last line's answer is within the caller's list
pub ended_fits : {d : Desk} {was out : List ℕ} {r : Told} → EndedIs d was out r → r.len ≤ length out
ended_fits E = ⊎_elim (λ x. omega (arith, x.1.none)) (λ x. omega (arith, x.0, x.1.fits, x.1.long)) E
