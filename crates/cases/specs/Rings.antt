-- Cases of rings, on six small maps: booked crossings of one second lead from where a wagon goes back to where it comes from, or fall short of
-- that. They hold as a whole, by the test of the nine.
use Rattle.std.specs.Prelude.{◌≡◌, true, ℕ, ◌+◌, refl, Bool}
use mathlib.Core.List.{List, [], ◌∷◌, Memᴰ}
use Rattle.rules.specs.Plan.{Stay}
use Rattle.cases.specs.Checks.{all_b, all_out}
use Rattle.cases.specs.Maps.{place, link, Barn}
use Rattle.cases.specs.Past.{Past, empty, booked, cancelled}
use Rattle.cases.specs.Case.Reason.{no_plan}
use Rattle.cases.specs.Case.{stay, Case, plans, refuses, books, Means, table_b, table_means}

-- p:0-t, q:t-(t+10)
abbrev going : ℕ → ℕ → ℕ → List Stay
going p q t = stay p 0 t ∷ stay q t (t + 10) ∷ []

-- then a run from p to q at 0 was booked, with the stays p:0-10, q:10-20
abbrev then : Past → ℕ → ℕ → Past
then h p q = booked h p q 0 (going p q 10)

-- the books: tickets 1, 2, .. go from 0 to 1, from 1 to 2, .., all crossing at 10
abbrev pub one : Past
one = then empty 0 1

abbrev pub two : Past
two = then one 1 2

abbrev pub three : Past
three = then two 2 3

-- from 0 to 1 and from 1 to 2, then from 0 to 3 and from 3 to 4
abbrev pub fork : Past
fork = then two 0 3

abbrev pub loops : Past
loops = then fork 3 4

-- places 0, 1, 2 capacity 2 duration 10; links 0-1, 1-2, 2-0
abbrev pub wide : Barn
wide = record {
  places = place 2 10 ∷ place 2 10 ∷ place 2 10 ∷ [];
  links = link 0 1 ∷ link 1 2 ∷ link 2 0 ∷ [];
  tested = refl;
}

abbrev pub wide_cases : List Case
wide_cases =
    -- 0 to 1 at 0: 0:0-10, 1:10-20. Ticket 1. 1 to 2 at 0: 1:0-10, 2:10-20. Ticket 2.
    books empty 0 1 0 (going 0 1 10) 1 20
    ∷ books one 1 2 0 (going 1 2 10) 2 20
    -- Beside both, 2 to 0 at 0 would close a ring at 10: 2:0-11, 0:11-21. Ticket 3.
    ∷ plans two 2 0 0 (going 2 0 11) 21
    ∷ books two 2 0 0 (going 2 0 11) 3 21
    -- Cancel 1. 2 to 0 at 0: 2:0-10, 0:10-20.
    ∷ plans (cancelled two 1) 2 0 0 (going 2 0 10) 20
    ∷ []

-- places 0, 1, 2 capacity 1 duration 10; 3 capacity 1 duration 30; links 0-1, 1-2, 2-0, 2-3, 3-0
abbrev pub detour : Barn
detour = record {
  places = place 1 10 ∷ place 1 10 ∷ place 1 10 ∷ place 1 30 ∷ [];
  links = link 0 1 ∷ link 1 2 ∷ link 2 0 ∷ link 2 3 ∷ link 3 0 ∷ [];
  tested = refl;
}

abbrev pub detour_cases : List Case
detour_cases =
    books empty 0 1 0 (going 0 1 10) 1 20
    ∷ books one 1 2 0 (going 1 2 10) 2 20
    -- 2 to 0 at 0, where 2 is full from 10: 2:0-10, 3:10-40, 0:40-50.
    ∷ plans two 2 0 0 (stay 2 0 10 ∷ stay 3 10 40 ∷ stay 0 40 50 ∷ []) 50
    ∷ []

-- places 0, 1, 2 capacity 1 duration 10; links 0-1, 1-2, 2-0
abbrev pub narrow : Barn
narrow = record {
  places = place 1 10 ∷ place 1 10 ∷ place 1 10 ∷ [];
  links = link 0 1 ∷ link 1 2 ∷ link 2 0 ∷ [];
  tested = refl;
}

abbrev pub narrow_cases : List Case
narrow_cases =
    books empty 0 1 0 (going 0 1 10) 1 20
    ∷ books one 1 2 0 (going 1 2 10) 2 20
    -- 2 to 0 at 0: refused 5.
    ∷ refuses two 2 0 0 no_plan
    ∷ []

-- places 0 to 3 capacity 2 duration 10; links 0-1, 1-2, 2-3, 3-0
abbrev pub square : Barn
square = record {
  places = place 2 10 ∷ place 2 10 ∷ place 2 10 ∷ place 2 10 ∷ [];
  links = link 0 1 ∷ link 1 2 ∷ link 2 3 ∷ link 3 0 ∷ [];
  tested = refl;
}

abbrev pub square_cases : List Case
square_cases =
    -- three crossings at 10 that close no ring
    books empty 0 1 0 (going 0 1 10) 1 20
    ∷ books one 1 2 0 (going 1 2 10) 2 20
    ∷ books two 2 3 0 (going 2 3 10) 3 20
    -- 3 to 0 at 0: 3:0-11, 0:11-21.
    ∷ plans three 3 0 0 (going 3 0 11) 21
    ∷ []

-- places 0 to 4 capacity 1 duration 10; links 0-1, 1-2, 2-3, 3-0, 3-4
abbrev pub chain : Barn
chain = record {
  places = place 1 10 ∷ place 1 10 ∷ place 1 10 ∷ place 1 10 ∷ place 1 10 ∷ [];
  links = link 0 1 ∷ link 1 2 ∷ link 2 3 ∷ link 3 0 ∷ link 3 4 ∷ [];
  tested = refl;
}

abbrev pub chain_cases : List Case
chain_cases =
    books empty 0 1 0 (going 0 1 10) 1 20
    ∷ books one 1 2 0 (going 1 2 10) 2 20
    ∷ books two 2 3 0 (going 2 3 10) 3 20
    -- 3 to 4 at 0, a fourth crossing at 10 that closes no ring: 3:0-10, 4:10-20. 3 to 0 at 0: refused 5.
    ∷ plans three 3 4 0 (going 3 4 10) 20
    ∷ refuses three 3 0 0 no_plan
    ∷ []

-- place 0 capacity 4; 1, 2, 3, 4 capacity 2; all durations 10; links 0-1, 1-2, 2-0, 0-3, 3-4, 4-0
abbrev pub eight : Barn
eight = record {
  places = place 4 10 ∷ place 2 10 ∷ place 2 10 ∷ place 2 10 ∷ place 2 10 ∷ [];
  links = link 0 1 ∷ link 1 2 ∷ link 2 0 ∷ link 0 3 ∷ link 3 4 ∷ link 4 0 ∷ [];
  tested = refl;
}

abbrev pub eight_cases : List Case
eight_cases =
    books empty 0 1 0 (going 0 1 10) 1 20
    ∷ books one 1 2 0 (going 1 2 10) 2 20
    ∷ books two 0 3 0 (going 0 3 10) 3 20
    ∷ books fork 3 4 0 (going 3 4 10) 4 20
    -- 2 to 0 at 0: 2:0-11, 0:11-21. 4 to 0 at 0: 4:0-11, 0:11-21.
    ∷ plans loops 2 0 0 (going 2 0 11) 21
    ∷ plans loops 4 0 0 (going 4 0 11) 21
    -- Cancel 1. 2 to 0 at 0: 2:0-10, 0:10-20. 4 to 0 at 0: 4:0-11, 0:11-21.
    ∷ plans (cancelled loops 1) 2 0 0 (going 2 0 10) 20
    ∷ plans (cancelled loops 1) 4 0 0 (going 4 0 11) 21
    ∷ []

abbrev pub rings : List (Barn × List Case)
rings = (wide, wide_cases) ∷ (detour, detour_cases) ∷ (narrow, narrow_cases) ∷ (square, square_cases) ∷ (chain, chain_cases) ∷ (eight, eight_cases) ∷ []

abbrev ring_b : Barn × List Case → Bool
ring_b x = table_b x.0 x.1

rings_test : all_b ring_b rings ≡ true
unfolding table_b
rings_test = refl

-- all of them hold: the test is run here itself, so that a table that fails it is refused here too
pub rings_hold : (x : Barn × List Case) → Memᴰ x rings → (c : Case) → Memᴰ c x.1 → Means x.0 c
unfolding table_b
rings_hold x m = table_means x.0 x.1 (all_out ring_b rings refl x m)
