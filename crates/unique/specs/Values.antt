-- The numbers that an answer returns tell the answer itself: a refusal is known by its number in the table and the row that it names, and
-- what is done has number 0, which no refusal has.
use Rattle.std.specs.Prelude.{◌≡◌, Ok, Err}
use Rattle.std.proofs.Common.{ap, arith}
use Rattle.rules.specs.declared.Cursor.{Cursor}
use Rattle.rules.specs.Rows.{cursor_key}
use Rattle.rules.specs.Answer.{Planned, Booked, Cancelled, Paged, answer_number, planned_arrival, planned_count, booked_ticket, booked_arrival, booked_count, cancelled_count, paged_count, paged_more, paged_cursor}
use Rattle.rules.specs.AnswerLaws.{refusal_same, number_positive}

pub planned_same : (r r' : Planned) → answer_number r ≡ answer_number r' → planned_arrival r ≡ planned_arrival r' → planned_count r ≡ planned_count r' → r ≡ r'
planned_same (Ok t) (Ok t') n a c = ap Ok (λ i. record { arrival = a i; count = c i })
planned_same (Ok t) (Err x) n a c = absurd (omega (arith, number_positive x))
planned_same (Err x) (Ok t) n a c = absurd (omega (arith, number_positive x))
planned_same (Err x) (Err x') n a c = ap Err (refusal_same x x' n c)

pub booked_same : (r r' : Booked) → answer_number r ≡ answer_number r' → booked_ticket r ≡ booked_ticket r' → booked_arrival r ≡ booked_arrival r' → booked_count r ≡ booked_count r' → r ≡ r'
booked_same (Ok x) (Ok x') n k a c = ap Ok (λ i. record { ticket = k i; arrival = a i; count = c i })
booked_same (Ok t) (Err x) n k a c = absurd (omega (arith, number_positive x))
booked_same (Err x) (Ok t) n k a c = absurd (omega (arith, number_positive x))
booked_same (Err x) (Err x') n k a c = ap Err (refusal_same x x' n c)

pub cancelled_same : (r r' : Cancelled) → answer_number r ≡ answer_number r' → cancelled_count r ≡ cancelled_count r' → r ≡ r'
cancelled_same (Ok m) (Ok m') n c = ap Ok c
cancelled_same (Ok m) (Err x) n c = absurd (omega (arith, number_positive x))
cancelled_same (Err x) (Ok m) n c = absurd (omega (arith, number_positive x))
cancelled_same (Err x) (Err x') n c = ap Err (refusal_same x x' n c)

pub cursor_same : (c c' : Cursor) → cursor_key c ≡ cursor_key c' → c ≡ c'
cursor_same c c' e = λ i. record { place = (e i).place; entry = (e i).entry; ticket = (e i).ticket }

pub paged_same : (r r' : Paged) → answer_number r ≡ answer_number r' → paged_count r ≡ paged_count r' → paged_more r ≡ paged_more r' → paged_cursor r ≡ paged_cursor r' → r ≡ r'
paged_same (Ok s) (Ok s') n c m k = let h = cursor_same s.cursor s'.cursor k in ap Ok (λ i. record { count = c i; more = m i; cursor = h i })
paged_same (Ok s) (Err x) n c m k = absurd (omega (arith, number_positive x))
paged_same (Err x) (Ok s) n c m k = absurd (omega (arith, number_positive x))
paged_same (Err x) (Err x') n c m k = ap Err (refusal_same x x' n c)
