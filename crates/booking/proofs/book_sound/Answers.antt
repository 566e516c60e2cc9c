-- `booking::book_sound` meets its contract: each refusal's test is its condition, and where none holds the rows of the chosen plan are put in under the
-- next ticket, which goes up.
use Prim.Native.Nat.{ℕ, ◌<◌}
use mathlib.Core.Path.{refl, sym, ap, ◌∙◌}
use native.Mathlib.Omega.{arith}
use mathlib.Core.List.{List}
use lib.ListN.{length, get_or-replicate}
use Rattle.rules.specs.declared.Row.{Row}
use Rattle.flat.specs.Flat.{places_in}
use Rattle.flat.specs.Laws.{places_long}
use Rattle.desk.specs.Planning.{route_long, route_arrives}
use Rattle.booking.specs.Found.{room_there, found_fits, none_found, found_chosen, found_permitted, found_enters}
use Rattle.booking.specs.Booking.{book_off_map, book_off_day, book_no_tickets, book_no_plan, book_full, book_done}
use Rattle.booking.proofs.book_sound.Goals as goal
use Rattle.booking.proofs.book_sound.Goals.{then-a-yard-via-then-a-yard, then-a-yard-via-else-a-yard+then-z-yard}

on_map : (C D : List ℕ) (n a z : ℕ) → a < n → z < n → (a < length (places_in C D n)) × (z < length (places_in C D n))
on_map C D n a z h k = let l = places_long C D n in (omega arith, omega arith)

pub returns-then-a-yard : goal.returns-then-a-yard
returns-then-a-yard c =
    let a = c.args in
    let l = places_long a.yard.now.cap a.yard.now.dur a.yard.now.places in
    book_off_map (λ h. let x = h.0 in let y = h.1 in elim c.then-a-yard.branch [
      | then-a-yard-via-then-a-yard w ↦ omega arith
      | then-a-yard-via-else-a-yard+then-z-yard w ↦ omega arith
    ])

pub returns-then-s-gt-DAY : goal.returns-then-s-gt-DAY
returns-then-s-gt-DAY c =
    book_off_day (on_map c.args.yard.now.cap c.args.yard.now.dur c.args.yard.now.places c.args.origin c.args.dest c.if-a-yard.false c.if-z-yard.false) c.if-s-gt-DAY.true

pub returns-then-ticket-ge-TICKETS : goal.returns-then-ticket-ge-TICKETS
returns-then-ticket-ge-TICKETS c =
    book_no_tickets (on_map c.args.yard.now.cap c.args.yard.now.dur c.args.yard.now.places c.args.origin c.args.dest c.if-a-yard.false c.if-z-yard.false) c.if-s-gt-DAY.false c.if-ticket-ge-TICKETS.true

pub route-requires : goal.route-requires
route-requires c =
    let Q = c.requires in
    record { lanes = Q.lanes; by_index = room_there Q; origin_lt_places = (c.if-a-yard.false, c.if-z-yard.false, c.if-s-gt-DAY.false); by_index_2 = λ v h. get_or-replicate 1280 v 86401 0 h; label_len = (refl, refl) }

pub returns-in_default : goal.returns-in_default
returns-in_default c =
    let o = on_map c.args.yard.now.cap c.args.yard.now.dur c.args.yard.now.places c.args.origin c.args.dest c.if-a-yard.false c.if-z-yard.false in
    book_no_plan o c.if-s-gt-DAY.false c.if-ticket-ge-TICKETS.false (none_found c.requires c.in_default.ensures)

pub returns-then-b-c-gt-ROWS : goal.returns-then-b-c-gt-ROWS
returns-then-b-c-gt-ROWS c =
    let o = on_map c.args.yard.now.cap c.args.yard.now.dur c.args.yard.now.places c.args.origin c.args.dest c.if-a-yard.false c.if-z-yard.false in
    let Q = c.requires in
    let R = c.in-Some.ensures in
    book_full
    o
    c.if-s-gt-DAY.false
    c.if-ticket-ge-TICKETS.false
    (found_chosen Q R)
    (found_permitted Q R o.1)
    (omega (arith, route_long (found_fits Q R), c.if-b-c-gt-ROWS.true))

pub step_at-last-requires : goal.step_at-last-requires
step_at-last-requires c =
    record { path_fits = found_fits c.requires c.in-Some.ensures; k_lt_count = omega (arith, c.in-Some.ensures.some) }

pub enter_rows-requires : goal.enter_rows-requires
enter_rows-requires c =
    let o = on_map c.args.yard.now.cap c.args.yard.now.dur c.args.yard.now.places c.args.origin c.args.dest c.if-a-yard.false c.if-z-yard.false in
    record { path_fits = found_fits c.requires c.in-Some.ensures; inserting = found_enters c.requires c.in-Some.ensures o.1 c.if-b-c-gt-ROWS.false }

pub returns : goal.returns
returns c =
    let o = on_map c.args.yard.now.cap c.args.yard.now.dur c.args.yard.now.places c.args.origin c.args.dest c.if-a-yard.false c.if-z-yard.false in
    let Q = c.requires in
    let R = c.in-Some.ensures in
    let A = found_fits Q R in
    book_done
    o
    c.if-s-gt-DAY.false
    c.if-ticket-ge-TICKETS.false
    (found_chosen Q R)
    (found_permitted Q R o.1)
    (omega (arith, route_long A, c.if-b-c-gt-ROWS.false))
    (route_arrives _ A R.some ∙ sym (ap (λ (x : Row). x.exit) c.step_at-last.ensures))
    (route_long A)
    c.enter_rows.ensures
    c.issued.ensures
