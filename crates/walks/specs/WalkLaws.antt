-- Every walk is as demanded. A page shows a chain of rows from its cursor on, and the next cursor is the end of that chain; so all that is
-- shown is one chain, and a row that stands is shown by the first page that comes past its key. The rows above the cursor grow by no more
-- than what is booked and are fewer after each page that says more, which bounds the number of pages.
use Rattle.std.specs.Prelude.{ℕ, zero, suc, ◌+◌, ◌*◌, ◌≤◌, ◌<◌, ◌≡◌, refl, ◌⊎◌, true, false, length, drop}
use Rattle.std.proofs.Common.{sym, ap, ap₂, subst, ◌∙◌, ⊎_elim, arith, take-append-drop, drop_of_length-le, length-take-le, ltb-true, ltb-false}
use mathlib.Core.List.Memᴰ
use mathlib.Core.List.{List, [], ◌∷◌, Memᴰ}
use Rattle.laws.specs.Order.{lt_or_ge}
use Rattle.laws.specs.Lists.{mem_index, index_mem}
use Rattle.rules.specs.declared.Row.{Row}
use Rattle.rules.specs.declared.Map.{Map}
use Rattle.rules.specs.declared.Book.{Book}
use Rattle.rules.specs.Map.{GoodMap, map_yard}
use Rattle.rules.specs.Rows.{Key, row_key, first_key, no_row, row_at, Less, lessb, Rising, keep, insert_all}
use Rattle.rules.specs.Rows.Less.{by_place, by_entry, by_ticket}
use Rattle.rules.specs.Page.{after, page_rows, last_key}
use Rattle.rules.specs.Plan.{Stay, run_rows}
use Rattle.rules.specs.Book.{GoodBook, rows_of, other_ticket}
use Rattle.rules.specs.Bytes.{row_size}
use Rattle.rules.specs.ByteLaws.{read_rows}
use Rattle.rules.specs.GateLaws.{unless, checked}
use Rattle.rules.specs.Answer.{Booking, Cancelling, Paged, rows_done, BookIs, BookingIs, BookDone, booked_rows, CancelIs, CancellingIs, CancelDone, PagingIs, PageDone, paged_more, paged_cursor}
use Rattle.keeping.specs.OrderLaws.{less_trans, less_lessb, lessb_less, same_lessb}
use Rattle.keeping.specs.Chains.{Chain, chain_below, chain_take, chain_append, chain_rest, chain_rising, after_chain, keys_once}
use Rattle.keeping.specs.Chains.Chain.{none}
use Rattle.keeping.specs.Changes.{keep_mem, mem_keep, keep_le}
use Rattle.keeping.specs.Runs.{run_length}
use Rattle.keeping.specs.Keeping.{row_ranges, row_fits}
use Rattle.keeping.specs.Books.{rows_of_book, book_formed}
use Rattle.keeping.specs.Calls.{booking_good, cancelling_good}
use Rattle.rules.specs.Walk.{Page, Others, Walk, shows_of, pages, shown, booked_by, booked, page_at, Stood, Walked}
use Rattle.rules.specs.Walk.Others.{rests, plans, books, cancels, looks}
use Rattle.rules.specs.Walk.Walk.{ends, goes}
use Rattle.walks.specs.Counts.{keep_less, keep_keep, keep_all}

-- ---- one page

-- what the contract of a page that is not refused says
record Paging (m : Map) (b : Book) (size : ℕ) (k : Key) (list out : List ℕ) (r : Paged) : Type 0 where
  good_map : GoodMap m
  good_book : GoodBook (map_yard m) b
  some : 1 ≤ size
  is : PageDone (rows_of b) size k list out r

module _ {m : Map} {b : Book} {k : Key} (p : Page m b k) where
  refused : {X : Type 0} (n : ℕ) {i : ℕ} → 0 < n → PagingIs n i false first_key p.list p.out p.answer → X
  refused n h x = absurd (omega (arith, x.code, p.done))

  paging : Paging m b p.size k p.list p.out p.answer
  paging =
      checked (λ n i h. refused n h.some)
      (λ gm gb. unless (refused 10 (omega arith))
      (λ sized. unless (refused 11 (omega arith))
      (λ cursor. unless (refused 6 (omega arith))
      (λ room shows. record { good_map = gm; good_book = gb; some = sized.0; is = shows }))))
      p.call

  abbrev rows : List Row
  rows = rows_of b

  abbrev page : List Row
  page = page_rows p.size k rows

  rising : Rising rows
  rising = paging.good_book.rising

  mem_page : (x : Row) → Memᴰ x page → Memᴰ x (after k rows)
  mem_page x n = rw (take-append-drop p.size (after k rows)) at (Memᴰ.append_left (drop p.size (after k rows)) n)

  -- a row of the page stood in the book when it was asked
  page_stood : (x : Row) → Memᴰ x page → Memᴰ x rows
  page_stood x n = (mem_keep (λ r. lessb k (row_key r)) x rows (mem_page x n)).0

  -- what the caller reads is the page
  pub shows_page : shows_of p ≡ page_rows p.size k (rows_of b)
  shows_page =
      let D = paging.is in
      let fits = row_fits paging.good_map.rules.few (book_formed paging.good_book) in
      rw (D.counts, D.holds) (read_rows page (drop (row_size * length page) p.list) (λ j h. fits (row_at page j) (page_stood (row_at page j) (index_mem no_row page j h))))

  -- and the cursor handed back is its last row's key
  pub cursor_last : paged_cursor p.answer ≡ last_key k (shows_of p)
  cursor_last = paging.is.hands ∙ ap (last_key k) (sym shows_page)

  page_chain : Chain k page
  page_chain = chain_take p.size (after_chain k rows rising)

  -- a row above the cursor is on the page, or comes after it and is above the next cursor
  on_or_past : (x : Row) → Less k (row_key x) → Memᴰ x rows → Memᴰ x page ⊎ Memᴰ x (drop p.size (after k rows))
  on_or_past x l n =
      Memᴰ.append_cases page (rw (take-append-drop p.size (after k rows)) (keep_mem (λ r. lessb k (row_key r)) (less_lessb l) n))

  past_page : (x : Row) → Memᴰ x (drop p.size (after k rows)) → Less (last_key k page) (row_key x)
  past_page x n = chain_below (chain_rest page (rw (take-append-drop p.size (after k rows)) (after_chain k rows rising))) n

-- the last row of some rows has the last key
last_row : (k : Key) (l : List Row) → 0 < length l → (x : Row) × Memᴰ x l × (last_key k l ≡ row_key x)
last_row k [] h = absurd (omega arith)
last_row k (x ∷ []) h = (x, Memᴰ.head refl, refl)
last_row k (x ∷ (y ∷ l)) h = let r = last_row (row_key x) (y ∷ l) (omega arith) in (r.0, Memᴰ.tail r.1, r.2)

-- how many rows stand above a key
abbrev above : Key → Book → ℕ
above k b = length (after k (rows_of b))

-- past a row above the cursor there are fewer rows
fewer_past : (k : Key) (l : List Row) (x : Row) → Memᴰ x l → Less k (row_key x) → length (after (row_key x) l) < length (after k l)
fewer_past k l x m h =
    keep_less (λ r. lessb (row_key x) (row_key r)) (λ r. lessb k (row_key r)) (λ y t. less_lessb (less_trans h (lessb_less (row_key x) (row_key y) t)))
    x (same_lessb (row_key x) (row_key x) refl) (less_lessb h) l m

module _ {m : Map} {b : Book} {k : Key} (p : Page m b k) where
  -- a page that says no more has nothing after it, and one that says more leaves fewer rows above its cursor
  nothing_past : paged_more p.answer ≡ false → length (after k (rows_of b)) ≤ p.size
  nothing_past e = ltb-false p.size (length (after k (rows_of b))) (sym (paging p).is.says ∙ e)

  fewer_left : paged_more p.answer ≡ true → above (paged_cursor p.answer) b < above k b
  fewer_left e =
      let h : p.size < length (after k (rows_of b)) = ltb-true p.size (length (after k (rows_of b))) (sym (paging p).is.says ∙ e) in
      let n : length (page p) ≡ p.size = length-take-le p.size (after k (rows_of b)) (omega arith) in
      let r = last_row k (page p) (omega (arith, (paging p).some)) in
      let s = mem_keep (λ r. lessb k (row_key r)) r.0 (rows_of b) (mem_page p r.0 r.1) in
      rw ((paging p).is.hands ∙ r.2) (fewer_past k (rows_of b) r.0 s.0 (lessb_less k (row_key r.0) s.1))

-- ---- what others do

-- from b to c there are at most n rows more above a key
abbrev Grows : Key → Book → Book → ℕ → Type 0
Grows k b c n = above k c ≤ above k b + n

module _ {m : Map} (k : Key) where
  book_grows : {b : Book} {start dest s : ℕ} {r : Booking} → BookIs m b start dest s r → Grows k b r.book (booked_rows r.answer)
  book_grows {b} {r = r} h = checked (λ n i _. same) (λ M G. unless same (λ a. unless same (λ a. unless same (λ a. unless same (λ a c. unless same (λ a. done c.0) c.2))))) h
    where
      same : {n i : ℕ} → BookingIs n 0 0 i b r → Grows k b r.book (booked_rows r.answer)
      same x = let e = ap (above k) x.holds in omega arith

      done : (plan : List Stay) → BookDone plan b r → Grows k b r.book (booked_rows r.answer)
      done plan x =
          let new = run_rows b.next_ticket plan in
          let e : above k r.book ≡ length (after k (insert_all new (rows_of b))) =
          ap (above k) x.holds ∙ ap (λ (l : List Row). length (after k l)) (rows_of_book (insert_all new (rows_of b)) (b.next_ticket + 1)) in
          omega (arith, e, keep_all (λ r. lessb k (row_key r)) new (rows_of b), run_length b.next_ticket plan, ap₂ rows_done x.code x.counts)

  cancel_grows : {b : Book} {ticket : ℕ} {r : Cancelling} → CancelIs m b ticket r → Grows k b r.book 0
  cancel_grows {b} {ticket} {r} h = checked (λ n i _. same) (λ M G. unless same (λ a. done)) h
    where
      same : {n i : ℕ} → CancellingIs n i b r → Grows k b r.book 0
      same x = let e = ap (above k) x.holds in omega arith

      done : CancelDone ticket b r → Grows k b r.book 0
      done x =
          let e : above k r.book ≡ length (after k (keep (other_ticket ticket) (rows_of b))) =
          ap (above k) x.holds ∙ ap (λ (l : List Row). length (after k l)) (rows_of_book (keep (other_ticket ticket) (rows_of b)) b.next_ticket) in
          omega (arith, e, keep_keep (λ r. lessb k (row_key r)) (other_ticket ticket) (rows_of b))

  -- above a key the book grows by no more than is booked
  others_grow : {b c : Book} (o : Others m b c) → Grows k b c (booked_by o)
  others_grow rests = omega arith
  others_grow (plans h o) = others_grow o
  others_grow (books h o) = omega (arith, book_grows h, others_grow o)
  others_grow (cancels h o) = omega (arith, cancel_grows h, others_grow o)
  others_grow (looks h o) = others_grow o

-- a good book stays good
pub others_good : {m : Map} {b c : Book} → Others m b c → GoodBook (map_yard m) b → GoodBook (map_yard m) c
others_good rests G = G
others_good (plans h o) G = others_good o G
others_good (books h o) G = others_good o (booking_good h G)
others_good (cancels h o) G = others_good o (cancelling_good h G)
others_good (looks h o) G = others_good o G

-- ---- the walk

-- all that is shown is one chain
walk_chain : {m : Map} {k : Key} {b : Book} (w : Walk m k b) → Chain k (shown (pages w))
walk_chain {k = k} (ends p e) = chain_append (subst (Chain k) (sym (shows_page p)) (page_chain p)) none
walk_chain {k = k} (goes p e o w) =
    chain_append (subst (Chain k) (sym (shows_page p)) (page_chain p))
    (subst (λ (j : Key). Chain j (shown (pages w))) (cursor_last p) (walk_chain w))

-- a row above the cursor that stands at each page is shown
walk_shows : {m : Map} {k : Key} {b : Book} (w : Walk m k b) (x : Row) → Less k (row_key x) → Stood x (pages w) → Memᴰ x (shown (pages w))
walk_shows {k = k} {b} (ends p e) x l s =
    ⊎_elim (λ (n : Memᴰ x (page p)). Memᴰ.append_left {s = shows_of p} [] (rw (shows_page p) n))
    (λ (n : Memᴰ x (drop p.size (after k (rows_of b)))). absurd (Memᴰ.not-nil (rw (drop_of_length-le (after k (rows_of b)) (nothing_past p e)) at n)))
    (on_or_past p x l (s 0 (omega arith)))
walk_shows {k = k} {b} (goes p e o w) x l s =
    ⊎_elim (λ (n : Memᴰ x (page p)). Memᴰ.append_left {s = shows_of p} (shown (pages w)) (rw (shows_page p) n))
    (λ (n : Memᴰ x (drop p.size (after k (rows_of b)))).
    Memᴰ.append_right (shows_of p) (walk_shows w x (rw (paging p).is.hands (past_page p x n)) (λ i h. s (suc i) (omega arith))))
    (on_or_past p x l (s 0 (omega arith)))

walk_asked : {m : Map} {k : Key} {b : Book} (w : Walk m k b) (i : ℕ) → i < length (pages w) → (x : Row)
    → Memᴰ x (page_at (pages w) i).shows → Memᴰ x (page_at (pages w) i).standing
walk_asked (ends p e) zero h x n = page_stood p x (rw (shows_page p) at n)
walk_asked (ends p e) (suc i) h x n = absurd (omega arith)
walk_asked (goes p e o w) zero h x n = page_stood p x (rw (shows_page p) at n)
walk_asked (goes p e o w) (suc i) h x n = walk_asked w i (omega arith) x n

walk_few : {m : Map} {k : Key} {b : Book} (w : Walk m k b) → length (pages w) ≤ 1 + (above k b + booked w)
walk_few (ends p e) = omega arith
walk_few {k = k} {b} (goes {c = c} p e o w) =
    let j = paged_cursor p.answer in
    let a : above j b < above k b = fewer_left p e in
    let d : above j c ≤ above j b + booked_by o = others_grow j o in
    omega (arith, walk_few w)

-- a row that stands at the first page is above the first cursor
first_below : (x : Row) → 1 ≤ x.ticket → Less first_key (row_key x)
first_below x h =
    ⊎_elim (λ (c : 0 < x.place). by_place c)
    (λ (c : x.place ≤ 0). ⊎_elim (λ (d : 0 < x.entry). by_entry (omega arith) d) (λ (d : x.entry ≤ 0). by_ticket (omega arith) (omega arith) h) (lt_or_ge 0 x.entry))
    (lt_or_ge 0 x.place)

start_below : {m : Map} {k : Key} {b : Book} (w : Walk m k b) (x : Row) → Stood x (pages w) → Less first_key (row_key x)
start_below (ends p e) x s = first_below x (row_ranges (book_formed (paging p).good_book) x (s 0 (omega arith))).ticket_from
start_below (goes p e o w) x s = first_below x (row_ranges (book_formed (paging p).good_book) x (s 0 (omega arith))).ticket_from

pub walked : {m : Map} {b : Book} (w : Walk m first_key b) → Walked w
walked {m} {b} w = record {
  stood = λ x s.
      let r = mem_index no_row (walk_shows w x (start_below w x s) s) in
      record {
        at = r.0;
        within = r.1;
        is = r.2;
        only = λ j q e. keys_once (shown (pages w)) R j r.0 q r.1 (e ∙ ap row_key (sym r.2));
      };
  once = λ i j h q e. let z : i ≡ j = keys_once (shown (pages w)) R i j (omega arith) q e in omega arith;
  asked = walk_asked w;
  rises = R;
  few = omega (arith, walk_few w, keep_le (λ r. lessb first_key (row_key r)) (rows_of b));
}
  where
    R : Rising (shown (pages w))
    R = chain_rising (walk_chain w)
