-- `lookup::crossed` meets its contract: a row of p with exit t and next place q goes from p to q at t.
use Rattle.lookup.specs.Crossings.{run_of, run_in, among_crosses}
use Rattle.lookup.proofs.crossed.Goals as goal

pub tail_near-requires : goal.tail_near-requires
tail_near-requires c =
    run_in (run_of c.requires.timed c.requires.t_lt_field_limit c.key_at.ensures.0 c.first_from-a.ensures c.key_at-2.ensures.0 c.first_from-b.ensures)

pub returns : goal.returns
returns c =
    let R = run_of c.requires.timed c.requires.t_lt_field_limit c.key_at.ensures.0 c.first_from-a.ensures c.key_at-2.ensures.0 c.first_from-b.ensures in
    λ e. among_crosses R c.requires.fact c.tail_of.ensures (c.tail_near.ensures e)
