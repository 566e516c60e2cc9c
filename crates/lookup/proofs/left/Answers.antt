-- `lookup::left` meets its contract: a way from x begins with a row of x that exits at t.
use Rattle.lookup.specs.Crossings.{run_of, run_in, none_leaves}
use Rattle.lookup.proofs.left.Goals as goal

pub exit_among-requires : goal.exit_among-requires
exit_among-requires c =
    run_in (run_of c.requires.timed c.requires.t_lt_field_limit c.key_at.ensures.0 c.first_from-a.ensures c.key_at-2.ensures.0 c.first_from-b.ensures)

pub returns : goal.returns
returns c =
    let R = run_of c.requires.timed c.requires.t_lt_field_limit c.key_at.ensures.0 c.first_from-a.ensures c.key_at-2.ensures.0 c.first_from-b.ensures in
    λ e y w. none_leaves R (c.exit_among.ensures e) w
