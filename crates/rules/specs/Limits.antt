-- The numbers of the rules.
use Rattle.std.specs.Prelude.{ℕ, ◌+◌}

-- "Time is whole seconds of one day, 0 to 86,400."
abbrev pub day : ℕ
day = 86400

-- "n from 1 to 256"
abbrev pub place_limit : ℕ
place_limit = 256

-- "a capacity, 1 to 16, and a duration, 1 to 3,600 seconds"
abbrev pub capacity_limit : ℕ
capacity_limit = 16

abbrev pub duration_limit : ℕ
duration_limit = 3600

-- "Links are .. at most 1,024"
abbrev pub link_limit : ℕ
link_limit = 1024

-- "A book holds at most 1,024 rows .. and the next ticket number, 1 to 1,000,000."
abbrev pub row_limit : ℕ
row_limit = 1024

abbrev pub ticket_limit : ℕ
ticket_limit = 1000000

-- a plan has at most as many stays as there can be free windows: "1,280"
abbrev pub plan_limit : ℕ
plan_limit = place_limit + row_limit

-- "page size 0 or above 64"
abbrev pub page_limit : ℕ
page_limit = 64
