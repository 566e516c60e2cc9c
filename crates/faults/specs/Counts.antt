-- Whether a book's counts and numbers are good can be decided, in each of its forms.
use Rattle.std.specs.Prelude.{ℕ, ◌+◌, ◌*◌, ◌≤◌, ◌<◌, ◌≡◌, List, length}
use Rattle.std.proofs.Math.Decide.{ℕ_discrete, dec_le, dec_lt}
use Rattle.rules.specs.declared.Row.{Row}
use Rattle.rules.specs.declared.Book.{Book}
use Rattle.rules.specs.Limits.{day, row_limit, ticket_limit}
use Rattle.rules.specs.Map.{Yard}
use Rattle.rules.specs.Rows.{no_row, row_at}
use Rattle.rules.specs.Book.{Ranges, Counted, CountedBook, rows_of}
use Rattle.rules.specs.Bytes.{num2, row_size}
use Rattle.rules.specs.Portal.{CountedSlice, slice_rows, slice_ticket}
use Rattle.faults.specs.Decide.{as?, both?, implies?, below?, same_row?}

ranges? : (Y : Yard) (t : ℕ) (r : Row) → Dec (Ranges Y t r)
ranges? Y t r = as?
    (both? (dec_lt r.place Y.places) (both? (dec_lt r.next Y.places) (both? (dec_le r.entry day) (both? (dec_le r.exit day)
    (both? (dec_le 1 r.ticket) (dec_lt r.ticket t))))))
    (λ x. record { place = x.0; next = x.1.0; entry = x.1.1.0; exit = x.1.1.1.0; ticket_from = x.1.1.1.1.0; ticket_to = x.1.1.1.1.1 })
    (λ o. (o.place, (o.next, (o.entry, (o.exit, (o.ticket_from, o.ticket_to))))))

-- the rows and the next ticket number by themselves
pub counted? : (Y : Yard) (rows : List Row) (t : ℕ) → Dec (Counted Y rows t)
counted? Y rows t = as?
    (both? (dec_le (length rows) row_limit) (both? (dec_le 1 t) (both? (dec_le t ticket_limit) (below? (λ i. ranges? Y t (row_at rows i)) (length rows)))))
    (λ x. record { few = x.0; ticket_from = x.1.0; ticket_to = x.1.1.0; ranges = x.1.1.1 })
    (λ C. (C.few, (C.ticket_from, (C.ticket_to, C.ranges))))

-- slots from a count up to a limit hold zeros
spare? : (rows : List Row) (count limit : ℕ) → Dec ((i : ℕ) → count ≤ i → i < limit → row_at rows i ≡ no_row)
spare? rows count limit = as? (below? (λ i. implies? (dec_le count i) (same_row? (row_at rows i) no_row)) limit) (λ f i h k. f i k h) (λ f i k h. f i h k)

-- by value
pub counted_book? : (Y : Yard) (b : Book) → Dec (CountedBook Y b)
counted_book? Y b = as?
    (both? (dec_le b.count row_limit) (both? (spare? b.rows b.count row_limit) (counted? Y (rows_of b) b.next_ticket)))
    (λ x. record { fits = x.0; spare = x.1.0; counts = x.1.1 })
    (λ C. (C.fits, (C.spare, C.counts)))

-- as a slice
pub counted_slice? : (Y : Yard) (s : List ℕ) → Dec (CountedSlice Y s)
counted_slice? Y s = as?
    (both? (dec_le 5 (length s)) (both? (ℕ_discrete (length s) (5 + row_size * num2 s 3)) (counted? Y (slice_rows s) (slice_ticket s))))
    (λ x. record { head = x.0; fits = x.1.0; counts = x.1.1 })
    (λ C. (C.head, (C.fits, C.counts)))
