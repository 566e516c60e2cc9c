-- The candidates are listed, filed and numbered, and their numbers tested.
use mathlib.Core.Path.{refl}
use Rattle.bookfit.specs.Prefix.{keyed_to, timed_to}
use Rattle.bookfit.specs.Ring.{ringed_candidate, listed_as}
use Rattle.bookfit.specs.Filed.{filed_start}
use Rattle.bookfit.proofs.ring_free.Goals as goal

pub file_rows-requires : goal.file_rows-requires
file_rows-requires c =
    let P = c.requires in
    record { keyed = keyed_to P.upto_le_count P.by_place.timed.keyed; listed = listed_as (ringed_candidate _ _ _ P.by_place P.upto_le_count) c.candidates-m.ensures; filed = filed_start _ _ _ _ 1024 refl }

pub ranks_fall-requires : goal.ranks_fall-requires
ranks_fall-requires c =
    let P = c.requires in
    let A = c.candidates-m.ensures in
    record { timed = timed_to P.upto_le_count P.by_place.timed; listed = listed_as (ringed_candidate _ _ _ P.by_place P.upto_le_count) A; filed = c.file_rows.ensures }
