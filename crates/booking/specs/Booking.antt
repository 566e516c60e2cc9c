-- What the booking call answers at each of its ends.
use Rattle.std.specs.Prelude.{ℕ, ◌+◌, ◌≤◌, ◌<◌, ◌≡◌, refl, List, length, Ok, Err}
use Rattle.std.proofs.Common.{sym, subst, inl, inr, arith}
use Rattle.rules.specs.declared.Row.{Row}
use Rattle.rules.specs.declared.Map.{Map}
use Rattle.rules.specs.declared.Book.{Book}
use Rattle.rules.specs.declared.Refusal.{Refusal}
use Rattle.rules.specs.declared.Refusal.TheVariants.{OffMap, OffDay, NoPlan, FullBook, NoTickets}
use Rattle.rules.specs.Map.{Yard, GoodMap, map_yard}
use Rattle.rules.specs.Rows.{insert_all}
use Rattle.rules.specs.Plan.{Stay, Permitted, arrival, run_rows}
use Rattle.rules.specs.Book.{GoodBook, rows_of, book_of}
use Rattle.rules.specs.Chosen.{Chosen}
use Rattle.rules.specs.Gate.Checked.{sound}
use Rattle.rules.specs.Answer.{Booking, number, fault_row, BookIs, BookingIs, BookSound}

-- ---- the answers

module _ {Y : Yard} {b : Book} {start dest s : ℕ} where
  pub book_off_map : ((start < Y.places) × (dest < Y.places) → ⊥) → BookSound Y (rows_of b) b start dest s (record { book = b; answer = Err OffMap })
  book_off_map h = inl (h, record { code = refl; issues = refl; arrives = refl; counts = refl; holds = refl })

  module _ (on : (start < Y.places) × (dest < Y.places)) where
    pub book_off_day : 86400 < s → BookSound Y (rows_of b) b start dest s (record { book = b; answer = Err OffDay })
    book_off_day h = inr (on, inl (λ k. omega arith, record { code = refl; issues = refl; arrives = refl; counts = refl; holds = refl }))

    module _ (in_day : s ≤ 86400) where
      pub book_no_tickets : 1000000 ≤ b.next_ticket → BookSound Y (rows_of b) b start dest s (record { book = b; answer = Err NoTickets })
      book_no_tickets h = inr (on, inr (in_day, inl (λ k. omega arith, record { code = refl; issues = refl; arrives = refl; counts = refl; holds = refl })))

      module _ (before : b.next_ticket < 1000000) where
        pub book_no_plan : ((plan : List Stay) → Permitted Y (rows_of b) start dest s plan → ⊥) → BookSound Y (rows_of b) b start dest s (record { book = b; answer = Err NoPlan })
        book_no_plan h = inr (on, inr (in_day, inr (before, inl (λ x. h x.0 x.1, record { code = refl; issues = refl; arrives = refl; counts = refl; holds = refl }))))

        module _ {plan : List Stay} (C : Chosen Y (rows_of b) start dest s plan) (P : Permitted Y (rows_of b) start dest s plan) where
          pub book_full : 1024 < b.count + length plan → BookSound Y (rows_of b) b start dest s (record { book = b; answer = Err FullBook })
          book_full h =
              inr (on, inr (in_day, inr (before, inr ((plan, P), (plan, C, inl (λ k. omega arith, record { code = refl; issues = refl; arrives = refl; counts = refl; holds = refl }))))))

          pub book_done : {a c : ℕ} {entered after : Book} → b.count + length plan ≤ 1024 → arrival plan ≡ a → length plan ≡ c
              → entered ≡ book_of (insert_all (run_rows b.next_ticket plan) (rows_of b)) b.next_ticket
              → ((l : List Row) (t : ℕ) → entered ≡ book_of l t → after ≡ book_of l (t + 1))
              → BookSound Y (rows_of b) b start dest s (record { book = after; answer = Ok (record { ticket = b.next_ticket; arrival = a; count = c }) })
          book_done h ea ec e up =
              inr (on, inr (in_day, inr (before, inr ((plan, P), (plan, C, inr (h, record { code = refl; issues = refl; arrives = sym ea; counts = sym ec; holds = up (insert_all (run_rows b.next_ticket plan) (rows_of b)) b.next_ticket e }))))))

-- ---- at the gate

pub book_refused : {b : Book} {x : Refusal} (n i : ℕ) → number x ≡ n → fault_row x ≡ i → BookingIs n 0 0 i b (record { book = b; answer = Err x })
book_refused n i h k = record { code = h; issues = refl; arrives = refl; counts = k; holds = refl }

pub book_sound_is : {m : Map} {b : Book} {start dest s : ℕ} {Y : Yard} {r : Booking} → GoodMap m → GoodBook (map_yard m) b → Y ≡ map_yard m
    → BookSound Y (rows_of b) b start dest s r → BookIs m b start dest s r
book_sound_is {b = b} {start} {dest} {s} {r = r} M G e x = sound M G (subst (λ (y : Yard). BookSound y (rows_of b) b start dest s r) e x)
