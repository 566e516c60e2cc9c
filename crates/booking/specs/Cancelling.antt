-- What the cancelling call answers at each of its ends. A ticket is known exactly when a row of it is counted.
use Rattle.std.specs.Prelude.{ℕ, ◌<◌, ◌≡◌, refl, length, Ok, Err}
use Rattle.std.proofs.Common.{inl, inr}
use Rattle.rules.specs.declared.Book.{Book}
use Rattle.rules.specs.declared.Refusal.{Refusal}
use Rattle.rules.specs.declared.Refusal.TheVariants.{UnknownTicket}
use Rattle.rules.specs.Rows.{keep}
use Rattle.rules.specs.Book.{rows_of, book_of, of_ticket, other_ticket}
use Rattle.rules.specs.Answer.{number, fault_row, CancellingIs, CancelSound}
use Rattle.ledger.specs.Remove.{counted_known, none_counted}

-- at the gate
pub cancel_refused : {b : Book} {x : Refusal} (n i : ℕ) → number x ≡ n → fault_row x ≡ i → CancellingIs n i b (record { book = b; answer = Err x })
cancel_refused n i h k = record { code = h; counts = k; holds = refl }

module _ {b : Book} {ticket : ℕ} where
  pub cancel_unknown : length (keep (of_ticket ticket) (rows_of b)) ≡ 0 → CancelSound b ticket (record { book = b; answer = Err UnknownTicket })
  cancel_unknown e = inl (none_counted (rows_of b) ticket e, record { code = refl; counts = refl; holds = refl })

  pub cancel_done : {c : ℕ} {after : Book} → 0 < length (keep (of_ticket ticket) (rows_of b)) → c ≡ length (keep (of_ticket ticket) (rows_of b))
      → after ≡ book_of (keep (other_ticket ticket) (rows_of b)) b.next_ticket
      → CancelSound b ticket (record { book = after; answer = Ok c })
  cancel_done h ec e = inr (counted_known (rows_of b) ticket h, record { code = refl; counts = ec; holds = e })
