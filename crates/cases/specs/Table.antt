-- The nine cases of the small barn as one table, and that it holds as a whole: one computed test of all lines, whose every line is proved to
-- give what the line means.
use Rattle.std.specs.Prelude.{ℕ, ◌≡◌, refl, true, false}
use mathlib.Core.List.{List, [], ◌∷◌, Memᴰ}
use Rattle.std.proofs.Common.{arith}
use Rattle.rules.specs.Rows.{row, Key, first_key, lessb}
use Rattle.cases.specs.Maps.{place, link, Barn}
use Rattle.cases.specs.Past.{Past, empty, booked, cancelled, rows_now, past_b}
use Rattle.cases.specs.Case.Reason.{off_map, off_day, no_plan}
use Rattle.cases.specs.Case.{stay, Case, plans, permits, refuses, books, cancels, pages, Refuses, Means, off_map_refuses, table_b, table_means}

-- "place 0 capacity 2 duration 10; 1, 2, 3 capacity 1, durations 20, 30, 10", with the links of the frames 020001, 020103, 020002, 020203, 020301, 020100
abbrev pub barn : Barn
barn = record {
  places = place 2 10 ∷ place 1 20 ∷ place 1 30 ∷ place 1 10 ∷ [];
  links = link 0 1 ∷ link 1 3 ∷ link 0 2 ∷ link 2 3 ∷ link 3 1 ∷ link 1 0 ∷ [];
  tested = refl;
}

abbrev key : ℕ → ℕ → ℕ → Key
key p a k = record { place = p; entry = a; ticket = k }

-- the books: ticket 1 only, tickets 1 and 2
abbrev pub one : Past
one = booked empty 0 3 0 (stay 0 0 10 ∷ stay 1 10 30 ∷ stay 3 30 40 ∷ [])

abbrev pub both : Past
both = booked one 0 3 0 (stay 0 0 10 ∷ stay 2 10 40 ∷ stay 3 40 50 ∷ [])

-- "Only 1 to 0 at 0 booked", "Only 3 to 3 at 30 booked"
abbrev pub leaving : Past
leaving = booked empty 1 0 0 (stay 1 0 20 ∷ stay 0 20 30 ∷ [])

abbrev pub standing : Past
standing = booked empty 3 3 30 (stay 3 30 40 ∷ [])

-- a past, then start, destination and second, then the answer: stays and arrival (and the ticket before it where booked), or a refusal
abbrev pub table : List Case
table =
    -- 1. "Empty book, 0 to 3 at 0: 0:0-10, 1:10-30, 3:30-40. Booked as ticket 1."
    plans empty 0 3 0 (stay 0 0 10 ∷ stay 1 10 30 ∷ stay 3 30 40 ∷ []) 40
    ∷ books empty 0 3 0 (stay 0 0 10 ∷ stay 1 10 30 ∷ stay 3 30 40 ∷ []) 1 40
    -- 2. "Beside 1, 0 to 3 at 0: 0:0-10, 2:10-40, 3:40-50. Ticket 2."
    ∷ plans one 0 3 0 (stay 0 0 10 ∷ stay 2 10 40 ∷ stay 3 40 50 ∷ []) 50
    ∷ books one 0 3 0 (stay 0 0 10 ∷ stay 2 10 40 ∷ stay 3 40 50 ∷ []) 2 50
    -- 3. "Beside both, 0 to 3 at 0: refused 5. At 10: 0:10-30, 1:30-50, 3:50-60."
    ∷ refuses both 0 3 0 no_plan
    ∷ plans both 0 3 10 (stay 0 10 30 ∷ stay 1 30 50 ∷ stay 3 50 60 ∷ []) 60
    -- 4. "Beside ticket 1 only, 3 to 0 at 0 or 20: refused 5 (the only exit meets a crossing at 30). At 40: arrival 80."
    ∷ refuses one 3 0 0 no_plan
    ∷ refuses one 3 0 20 no_plan
    ∷ plans one 3 0 40 (stay 3 40 50 ∷ stay 1 50 70 ∷ stay 0 70 80 ∷ []) 80
    -- 5. "Only 1 to 0 at 0 booked (arrival 30). 0 to 3 at 10: 0:10-21, 1:21-41, 3:41-51."
    ∷ books empty 1 0 0 (stay 1 0 20 ∷ stay 0 20 30 ∷ []) 1 30
    ∷ plans leaving 0 3 10 (stay 0 10 21 ∷ stay 1 21 41 ∷ stay 3 41 51 ∷ []) 51
    -- 6. "Only 3 to 3 at 30 booked. 0 to 3 at 0: 0:0-10, 1:10-40, 3:40-50, the way through 2 being equal."
    ∷ books empty 3 3 30 (stay 3 30 40 ∷ []) 1 40
    ∷ plans standing 0 3 0 (stay 0 0 10 ∷ stay 1 10 40 ∷ stay 3 40 50 ∷ []) 50
    ∷ permits standing 0 3 0 (stay 0 0 10 ∷ stay 2 10 40 ∷ stay 3 40 50 ∷ []) 50
    -- 7. "Empty, 3 to 3 at 86,390: arrival 86,400. At 86,391: refused 5. At 86,401: refused 4."
    ∷ plans empty 3 3 86390 (stay 3 86390 86400 ∷ []) 86400
    ∷ refuses empty 3 3 86391 no_plan
    ∷ refuses empty 3 3 86401 off_day
    -- 8. "Destination 4: refused 3."
    ∷ refuses empty 0 4 0 off_map
    -- 9. "Tickets 1 and 2 booked, page of 2 from the first cursor: keys (0,0,1), (0,0,2), more. Cancel 1.
    -- Page of 2 after (0,0,2): (2,10,2), (3,40,2), no more."
    ∷ pages both 2 first_key (row 0 0 1 10 1 ∷ row 0 0 2 10 2 ∷ []) true
    ∷ cancels both 1 3
    ∷ pages (cancelled both 1) 2 (key 0 0 2) (row 2 10 2 40 3 ∷ row 3 40 2 50 3 ∷ []) false
    ∷ []

table_test : table_b barn table ≡ true
unfolding table_b
table_test = refl

-- the table holds, as a whole: it runs the test itself, so that a table that fails it is refused here too
pub table_holds : (c : Case) → Memᴰ c table → Means barn c
unfolding table_b
table_holds = table_means barn table refl

-- case 8 whatever the start, the second and the book's past
pub destination_4 : (h : Past) → past_b barn h ≡ true → (start s : ℕ) → Refuses barn h start 4 s off_map
destination_4 h t start s = off_map_refuses barn h start 4 s t (λ on. omega (arith, on.1))

-- the books as the rows that a page shows: place, entry, ticket, exit, next
pub rows_one : rows_now one ≡ row 0 0 1 10 1 ∷ row 1 10 1 30 3 ∷ row 3 30 1 40 3 ∷ []
unfolding lessb
rows_one = refl

pub rows_both : rows_now both ≡ row 0 0 1 10 1 ∷ row 0 0 2 10 2 ∷ row 1 10 1 30 3 ∷ row 2 10 2 40 3 ∷ row 3 30 1 40 3 ∷ row 3 40 2 50 3 ∷ []
unfolding lessb
rows_both = refl

pub rows_second : rows_now (cancelled both 1) ≡ row 0 0 2 10 2 ∷ row 2 10 2 40 3 ∷ row 3 40 2 50 3 ∷ []
unfolding lessb
rows_second = refl

pub rows_leaving : rows_now leaving ≡ row 0 20 1 30 0 ∷ row 1 0 1 20 0 ∷ []
unfolding lessb
rows_leaving = refl

pub rows_standing : rows_now standing ≡ row 3 30 1 40 3 ∷ []
unfolding lessb
rows_standing = refl
