-- The six kinds of frame, from what the calls below them ensure and what the lines put are.
use Rattle.std.specs.Prelude.{ℕ, ◌*◌, ◌≤◌, ◌<◌, ◌≡◌, List, [], ◌∷◌, ◌++◌, length, take}
use Rattle.std.proofs.Math.Path.{refl}
use Rattle.std.proofs.Math.Bool.{false}
use Rattle.std.proofs.Common.{inr, append-nil, arith, length-append}
use Rattle.std.proofs.lemmas.List.{length-replicate}
use Rattle.rules.specs.declared.State.{State}
use Rattle.rules.specs.Limits.{place_limit, link_limit, plan_limit}
use Rattle.rules.specs.Rows.{bit}
use Rattle.rules.specs.Bytes.{byte_at, num2, num3, bytes2, bytes3, place_in, link_in, row_size, list_size, answer_room}
use Rattle.rules.specs.Answer.{Planned, Booking, Cancelling, Paged, PlanIs, BookIs, CancelIs, PageIs, answer_number, planned_arrival, planned_count, planned_rows, paged_count, paged_rows, paged_more}
use Rattle.rules.specs.Answer.{booked_ticket, booked_arrival, booked_count, cancelled_count}
use Rattle.rules.specs.Frames.{hex_of, line_of, row_lines, after00, answer_list, book_lines, cancel_lines, closed_state, with_place, with_link, Said}
use Rattle.rules.specs.Frames.{PlaceFrame, LinkFrame, PlanFrame, BookFrame, CancelFrame, PageFrame}
use Rattle.desk.specs.Few.{plan_within, page_within}
use Rattle.frames.specs.declared.Head.{Head}
use Rattle.rules.specs.Program.{Spoken}
use Rattle.frames.specs.Put.{line_long, rows_long}
use Rattle.frames.specs.Heads.{HeadIs}
use Rattle.frames.specs.Told.{Answers, spoken}

-- ---- frames that are refused, and the two that make the map

pub refused_line : (s : State) {was out : List ℕ} {len : ℕ} → Answers (line_of (12 ∷ [])) was out len → Spoken (Said s (line_of (12 ∷ []))) was out (record { state = s; len = len })
unfolding hex_of
refused_line s {was} {out} {len} A = spoken (Said s (line_of (12 ∷ []))) s len A (omega arith) (record { next = refl; prints = refl })

module _ (s : State) (bytes : List ℕ) {was out : List ℕ} {len : ℕ} (A : Answers (line_of (0 ∷ [])) was out len) (going : s.closed ≡ false) where
  pub place_kept : {d : ℕ} → d ≡ num2 bytes 2 → s.map.place_count < place_limit
      → Spoken (PlaceFrame s bytes) was out (record { state = record { map = with_place s.map (record { capacity = byte_at bytes 1; duration = d }); book = s.book; closed = s.closed }; len = len })
  unfolding hex_of
  place_kept {d} e h =
      rw e
      (spoken (PlaceFrame s bytes) (record { map = with_place s.map (place_in bytes 1); book = s.book; closed = s.closed }) len A (omega arith)
      (inr ((going, h), record { next = λ i. record { map = with_place s.map (place_in bytes 1); book = s.book; closed = going i }; prints = refl })))

  pub link_kept : s.map.link_count < link_limit
      → Spoken (LinkFrame s bytes) was out (record { state = record { map = with_link s.map (link_in bytes 1); book = s.book; closed = s.closed }; len = len })
  unfolding hex_of
  link_kept h =
      spoken (LinkFrame s bytes) (record { map = with_link s.map (link_in bytes 1); book = s.book; closed = s.closed }) len A (omega arith)
      (inr ((going, h), record { next = λ i. record { map = with_link s.map (link_in bytes 1); book = s.book; closed = going i }; prints = refl }))

-- ---- the four calls

-- an answer is its first line and at most the row lines of a whole plan
answer_short : (h : Head) (list : List ℕ) (rows : ℕ) → h.count ≤ 9 → length h.bytes ≡ 9 → rows ≤ plan_limit → row_size * rows ≤ length list
    → length (line_of (take h.count h.bytes) ++ row_lines rows list) ≤ answer_room
answer_short h list rows a b c d =
    let e = length-append (line_of (take h.count h.bytes)) (row_lines rows list) in
    let f = line_long h.bytes 0 h.count (omega arith) in
    let g = rows_long rows list d in
    omega arith

module _ (s : State) (bytes : List ℕ) (h : Head) {was out : List ℕ} {len : ℕ} where
  pub plan_frame_lem : (p : Planned) (list : List ℕ) (rows : ℕ) {second : ℕ} → second ≡ num3 bytes 3
      → PlanIs s.map s.book (byte_at bytes 1) (byte_at bytes 2) second answer_list list p → length list ≡ list_size → rows ≡ planned_rows p
      → HeadIs (after00 (answer_number p) (bytes3 (planned_arrival p) ++ bytes2 (planned_count p))) h
      → Answers (line_of (take h.count h.bytes) ++ row_lines rows list) was out len
      → Spoken (PlanFrame s bytes) was out (record { state = closed_state s s.book; len = len })
  plan_frame_lem p list rows c is n e H A =
      let l = length-replicate {A = ℕ} list_size 0 in
      let f = plan_within is in
      spoken (PlanFrame s bytes) (closed_state s s.book) len A (answer_short h list rows H.fits H.long (omega arith) (omega arith))
      (record { answer = p; list = list; is = rw c at is; said_so = record { next = refl; prints = rw (H.is, e) } })

  pub book_frame_lem : (r : Booking) {second : ℕ} → second ≡ num3 bytes 3 → BookIs s.map s.book (byte_at bytes 1) (byte_at bytes 2) second r
      → HeadIs (after00 (answer_number r.answer) (bytes3 (booked_ticket r.answer) ++ (bytes3 (booked_arrival r.answer) ++ bytes2 (booked_count r.answer)))) h
      → Answers (line_of (take h.count h.bytes) ++ row_lines 0 []) was out len
      → Spoken (BookFrame s bytes) was out (record { state = closed_state s r.book; len = len })
  book_frame_lem r c is H A =
      spoken (BookFrame s bytes) (closed_state s r.book) len A (answer_short h [] 0 H.fits H.long (omega arith) (omega arith))
      (record { answer = r; is = rw c at is; said_so = record { next = refl; prints = rw H.is (append-nil (book_lines r)) } })

  pub cancel_frame_lem : (r : Cancelling) {ticket : ℕ} → ticket ≡ num3 bytes 1 → CancelIs s.map s.book ticket r
      → HeadIs (after00 (answer_number r.answer) (bytes2 (cancelled_count r.answer))) h
      → Answers (line_of (take h.count h.bytes) ++ row_lines 0 []) was out len
      → Spoken (CancelFrame s bytes) was out (record { state = closed_state s r.book; len = len })
  cancel_frame_lem r a is H A =
      spoken (CancelFrame s bytes) (closed_state s r.book) len A (answer_short h [] 0 H.fits H.long (omega arith) (omega arith))
      (record { answer = r; is = rw a at is; said_so = record { next = refl; prints = rw H.is (append-nil (cancel_lines r)) } })

  pub page_frame_lem : (p : Paged) (list : List ℕ) (rows : ℕ) {entry ticket : ℕ} → entry ≡ num3 bytes 3 → ticket ≡ num3 bytes 6
      → PageIs s.map s.book (byte_at bytes 1) (record { place = byte_at bytes 2; entry = entry; ticket = ticket }) answer_list list p
      → length list ≡ list_size → rows ≡ paged_rows p
      → HeadIs (after00 (answer_number p) (paged_count p ∷ (bit (paged_more p) ∷ []))) h
      → Answers (line_of (take h.count h.bytes) ++ row_lines rows list) was out len
      → Spoken (PageFrame s bytes) was out (record { state = closed_state s s.book; len = len })
  page_frame_lem p list rows c d is n e H A =
      let f = page_within is in
      spoken (PageFrame s bytes) (closed_state s s.book) len A (answer_short h list rows H.fits H.long (omega (arith, f.1)) (omega (arith, f.1)))
      (record { answer = p; list = list; is = rw (c, d) at is; said_so = record { next = refl; prints = rw (H.is, e) } })
