-- A good book stays good through a booking and a cancellation, whatever they answer: a refusal leaves it as it is, and what is done keeps it
-- well formed. So every book that comes of an empty one by calls is good.
use Rattle.std.proofs.Common.{sym, subst, arith, length-take}
use Rattle.std.specs.Prelude.{List, [], ℕ, ◌+◌, ◌<◌, ◌≤◌, length}
use Rattle.std.proofs.Math.Nat.{min-le_left}
use Rattle.rules.specs.declared.Map.{Map}
use Rattle.rules.specs.declared.Book.{Book}
use Rattle.rules.specs.Limits.{row_limit, ticket_limit}
use Rattle.rules.specs.Map.{Yard, GoodMap, map_yard}
use Rattle.rules.specs.Plan.{Stay, Permitted}
use Rattle.rules.specs.Book.{GoodBook, rows_of, book_of}
use Rattle.rules.specs.Chosen.{Chosen}
use Rattle.rules.specs.GateLaws.{unless, checked}
use Rattle.rules.specs.Answer.{Booking, Cancelling, BookIs, BookingIs, BookDone, CancelIs, CancellingIs, CancelDone}
use Rattle.lanes.specs.Yards.{YardRules, yard_rules}
use Rattle.lanes.specs.Chosen.{chosen_best}
use Rattle.keeping.specs.Keeping.{empty_formed, book_keeps, cancel_keeps}
use Rattle.keeping.specs.Books.{good_book, book_formed}

pub empty_good : (Y : Yard) → GoodBook Y (book_of [] 1)
empty_good Y = good_book (empty_formed Y)

pub booking_good : {m : Map} {b : Book} {start dest s : ℕ} {r : Booking} → BookIs m b start dest s r → GoodBook (map_yard m) b → GoodBook (map_yard m) r.book
booking_good {m} {b} {start} {dest} {s} {r} h G =
    checked (λ n i _. same) (λ M _. unless same (λ on. unless same (λ d. unless same (λ t. unless same (λ some c. unless same (done M on.1 t c.0 c.1) c.2))))) h
  where
    same : {n i : ℕ} → BookingIs n 0 0 i b r → GoodBook (map_yard m) r.book
    same x = subst (GoodBook (map_yard m)) (sym x.holds) G

    done : GoodMap m → dest < (map_yard m).places → b.next_ticket < ticket_limit → (plan : List Stay) → Chosen (map_yard m) (rows_of b) start dest s plan
        → b.count + length plan ≤ row_limit → BookDone plan b r → GoodBook (map_yard m) r.book
    done M on t plan c fits x =
        let Y = map_yard m in
        let rules : YardRules Y = yard_rules M.rules in
        let P : Permitted Y (rows_of b) start dest s plan = (chosen_best Y (rows_of b) start dest s rules.from_on on G.room c).0 in
        let n : length (rows_of b) ≤ b.count = rw (length-take b.count b.rows) (min-le_left b.count (length b.rows)) in
        subst (GoodBook Y) (sym x.holds) (good_book (book_keeps rules (book_formed G) t P (omega arith)))

pub cancelling_good : {m : Map} {b : Book} {ticket : ℕ} {r : Cancelling} → CancelIs m b ticket r → GoodBook (map_yard m) b → GoodBook (map_yard m) r.book
cancelling_good {m} {b} {ticket} {r} h G = checked (λ n i _. same) (λ M _. unless same (λ k. done)) h
  where
    same : {n i : ℕ} → CancellingIs n i b r → GoodBook (map_yard m) r.book
    same x = subst (GoodBook (map_yard m)) (sym x.holds) G

    done : CancelDone ticket b r → GoodBook (map_yard m) r.book
    done x = subst (GoodBook (map_yard m)) (sym x.holds) (good_book (cancel_keeps ticket (book_formed G)))
