-- What the tests of a book's arrays say of the rows that the arrays hold: ranges are the definition's, rows that fit, join and end once are whole plans, and the
-- first row of the lowest ticket of which one does not is where the book is broken.
use Rattle.std.specs.Prelude.{ℕ, ◌+◌, ◌-◌, ◌≤◌, ◌<◌, ◌≡◌, refl}
use Rattle.std.proofs.Common.{sym, ap, subst, ◌∙◌, arith}
use mathlib.Core.List.{List, [], Memᴰ}
use Rattle.laws.specs.Lists.{at}
use Rattle.rules.specs.declared.Row.{Row}
use Rattle.rules.specs.declared.Place.{Place}
use Rattle.rules.specs.Limits.{row_limit, ticket_limit}
use Rattle.rules.specs.Map.{Yard, MapRules, linked}
use Rattle.rules.specs.Rows.{row_at, load}
use Rattle.rules.specs.Book.{Whole, AllWhole, Room, Counted}
use Rattle.rules.specs.Fault.{FirstBad, BrokenAt}
use Rattle.rules.specs.FaultLaws.{Inherited, room_inherited}
use Rattle.lanes.specs.Yards.{YardRules, yard_rules}
use Rattle.flat.specs.Flat.{places_in, links_in, yard_in, place_of, ticket_of, Of, rows_in, Packed, KeysRise}
use Rattle.flat.specs.Laws.{places_long, place_in, rows_long, row_in, yard_of}
use Rattle.lookup.specs.Crossings.{ByPlace}
use Rattle.windows.specs.Places.{Given}
use Rattle.chains.specs.Laws.{tested_whole, whole_tested}
use Rattle.bookfit.specs.Keys.{next_parts}
use Rattle.bookfit.specs.Least.{AtFault, LowestAt}
use Rattle.bookfit.specs.Rows.{AllInRange, RowFits}
use Rattle.bookfit.specs.Bridge.{RunOk, index_tested, tested_index}

-- ---- the arrays' map and the yard that they make

module _ {Y : Yard} {C D : List ℕ} {n : ℕ} (O : Of Y C D n) where
  fits_yard : {r : Row} → RowFits n (at D) Y.link r → RowFits Y.places Y.dur Y.link r
  fits_yard {r} f =
      let d = O.durs r.place f.on_map in
      record {
        on_map = omega (arith, O.places, f.on_map);
        in_day = f.in_day;
        lasts = omega (arith, f.lasts);
        exact = λ e. omega (arith, f.exact e);
        linked = f.linked;
      }

  yard_fits : {r : Row} → RowFits Y.places Y.dur Y.link r → RowFits n (at D) Y.link r
  yard_fits {r} f =
      let on : r.place < n = omega (arith, O.places, f.on_map) in
      let d = O.durs r.place on in
      record {
        on_map = on;
        in_day = f.in_day;
        lasts = omega (arith, f.lasts);
        exact = λ e. omega (arith, f.exact e);
        linked = f.linked;
      }

  module _ (K X : List ℕ) (count t : ℕ) where
    pub ranges_counted : count ≤ row_limit → 1 ≤ t → t ≤ ticket_limit → AllInRange n t (at K) (at X) count → Counted Y (rows_in K X count) t
    ranges_counted few from to R =
        let e = O.places in
        let l = rows_long K X count in
        record {
          few = omega arith;
          ticket_from = from;
          ticket_to = to;
          ranges = λ i h.
              let hi : i < count = omega arith in
              let r = R.each i hi in
              rw (row_in K X count i hi) (record {
                place = omega (arith, r.1.place);
                next = omega (arith, r.1.next);
                entry = r.1.entry;
                exit = r.1.exit;
                ticket_from = r.0.from;
                ticket_to = r.0.to;
              });
        }

    pub counted_ranges : Counted Y (rows_in K X count) t → AllInRange n t (at K) (at X) count
    counted_ranges W =
        let e = O.places in
        let l = rows_long K X count in
        record {
          each = λ i h.
              let r = rw (row_in K X count i h) at (W.ranges i (omega arith)) in
              (record { from = r.ticket_from; to = r.ticket_to }, record { place = omega (arith, r.place); next = omega (arith, r.next); entry = r.entry; exit = r.exit });
        }

-- ---- room, by the capacities in the array

abbrev pub Capped : ℕ → List ℕ → List Row → Type 0
Capped n C rows = (p t : ℕ) → p < n → load rows p t ≤ at C p

pub capped_inherited : (n : ℕ) (C : List ℕ) → Inherited (Capped n C)
capped_inherited n C = room_inherited (record { places = n; cap = at C; dur = at C; link = linked [] })

module _ {Y : Yard} {C D : List ℕ} {n : ℕ} (O : Of Y C D n) where
  pub capped_room : (rows : List Row) → Capped n C rows → Room Y rows
  capped_room rows f p t h = let hp : p < n = omega (arith, O.places) in omega (arith, f p t hp, O.caps p hp)

  room_capped : (rows : List Row) → Room Y rows → Capped n C rows
  room_capped rows f p t h = omega (arith, f p t (omega (arith, O.places)), O.caps p h)

  pub capped_first : {rows : List Row} {i : ℕ} → FirstBad (Capped n C) rows i → FirstBad (Room Y) rows i
  capped_first F = record { from = F.from; good = capped_room _ F.good; bad = λ q. F.bad (room_capped _ q) }

-- ---- what is known of a map and a book past each check

-- past 2: the map keeps its rules, and counts and numbers are in their ranges
pub record Numbered (C D : List ℕ) (n : ℕ) (F T : List ℕ) (k : ℕ) (K X : List ℕ) (count t : ℕ) : Type 0 where
  pub rules : MapRules (places_in C D n) (links_in F T k)
  pub few : count ≤ row_limit
  pub ticket_from : 1 ≤ t
  pub ticket_to : t ≤ ticket_limit
  pub within : AllInRange n t (at K) (at X) count

-- past 13
pub record Ordered (C D : List ℕ) (n : ℕ) (F T : List ℕ) (k : ℕ) (K X : List ℕ) (count t : ℕ) : Type 0 where
  pub numbered : Numbered C D n F T k K X count t
  pub rises : KeysRise K count

abbrev pub RunsIn : (D : List ℕ) (n : ℕ) (F T : List ℕ) (k : ℕ) (K X : List ℕ) (count i : ℕ) → Type 0
RunsIn D n F T k K X count i = RunOk n (at D) (linked (links_in F T k)) (at K) (at X) count i

-- past 14
pub record Running (C D : List ℕ) (n : ℕ) (F T : List ℕ) (k : ℕ) (K X : List ℕ) (count t : ℕ) : Type 0 where
  pub ordered : Ordered C D n F T k K X count t
  pub runs : (i : ℕ) → i < count → RunsIn D n F T k K X count i

pub numbered_counts : {C D : List ℕ} {n : ℕ} {F T : List ℕ} {k : ℕ} {K X : List ℕ} {count t : ℕ} → Numbered C D n F T k K X count t
    → Counted (yard_in C D n F T k) (rows_in K X count) t
numbered_counts {C} {D} {n} {F} {T} {k} {K} {X} {count} {t} Z =
    ranges_counted (yard_of C D F T n k Z.rules) K X count t Z.few Z.ticket_from Z.ticket_to Z.within

-- ---- runs

module _ {C D : List ℕ} {n : ℕ} {F T : List ℕ} {k : ℕ} {K X : List ℕ} {count t : ℕ} (Z : Ordered C D n F T k K X count t) where
  yard : Of (yard_in C D n F T k) C D n
  yard = yard_of C D F T n k Z.numbered.rules

  lanes : YardRules (yard_in C D n F T k)
  lanes = yard_rules Z.numbered.rules

  whole_at : (j : ℕ) → ((i : ℕ) → i < count → ticket_of (at K i) ≡ j → RunsIn D n F T k K X count i) → (r : Row) → Memᴰ r (rows_in K X count) → r.ticket ≡ j
      → Whole (yard_in C D n F T k) (rows_in K X count) j
  whole_at j f r m e = tested_whole lanes (index_tested K X count (yard_in C D n F T k) j (λ i h q. let o = f i h q in (fits_yard yard o.0, o.1))) r m e

  at_whole : (j : ℕ) → Whole (yard_in C D n F T k) (rows_in K X count) j → (i : ℕ) → i < count → ticket_of (at K i) ≡ j → RunsIn D n F T k K X count i
  at_whole j W i h e =
      let o = tested_index K X count (yard_in C D n F T k) Z.rises (λ i h. omega (arith, (Z.numbered.within.each i h).1.exit)) (whole_tested lanes W) i h e in
      (yard_fits yard o.0, o.1)

  pub row_broken : {i : ℕ} → LowestAt (RunsIn D n F T k K X count) K count i → BrokenAt (yard_in C D n F T k) (rows_in K X count) (i + 1)
  row_broken {i} L = record {
    from = omega arith;
    to = omega (arith, rows_long K X count, L.within);
    broken = λ W. A.fails (at_whole (ticket_of (at K i)) (subst (Whole (yard_in C D n F T k) (rows_in K X count)) here W) A.row A.within A.has);
    lower = λ s m l. whole_at s.ticket (λ i g e. A.fine i g (omega (arith, here))) s m refl;
    first = λ j g e. L.first j (omega arith) (sym (ap (λ (x : Row). x.ticket) (row_in K X count j (omega (arith, L.within)))) ∙ e ∙ here);
  }
    where
      A : AtFault (RunsIn D n F T k K X count) (at K) count (ticket_of (at K i))
      A = L.fault

      here : (row_at (rows_in K X count) (i + 1 - 1)).ticket ≡ ticket_of (at K i)
      here = let back : i + 1 - 1 ≡ i = omega arith in rw back (ap (λ (x : Row). x.ticket) (row_in K X count i L.within))

module _ {C D : List ℕ} {n : ℕ} {F T : List ℕ} {k : ℕ} {K X : List ℕ} {count t : ℕ} (Z : Running C D n F T k K X count t) where
  pub runs_whole : AllWhole (yard_in C D n F T k) (rows_in K X count)
  runs_whole r m = whole_at Z.ordered r.ticket (λ i h _. Z.runs i h) r m refl

  -- what finding the windows asks for
  pub runs_given : Given n count C D K X
  runs_given =
      let M = Z.ordered.numbered.rules in
      let l = places_long C D n in
      record {
        places = omega (arith, M.few);
        rows = Z.ordered.numbered.few;
        cap_from = λ p h. omega (arith, M.cap_from p (omega arith), ap (λ (x : Place). x.capacity) (place_in C D n p h));
        cap_to = λ p h. omega (arith, M.cap_to p (omega arith), ap (λ (x : Place). x.capacity) (place_in C D n p h));
        dur_from = λ p h. omega (arith, M.dur_from p (omega arith), ap (λ (x : Place). x.duration) (place_in C D n p h));
        dur_to = λ p h. omega (arith, M.dur_to p (omega arith), ap (λ (x : Place). x.duration) (place_in C D n p h));
        rising = Z.ordered.rises;
        on_map = λ i h. (Z.runs i h).0.on_map;
        lasts = λ i h.
            let f = (Z.runs i h).0 in
            let p = place_of (at K i) in
            let o = f.on_map in
            omega (arith, f.lasts, M.dur_from p (omega arith), ap (λ (x : Place). x.duration) (place_in C D n p o));
        in_day = λ i h. (Z.runs i h).0.in_day;
      }

  -- what the exchange test asks for: a row that goes on has its successor, which enters where and when it leaves
  pub runs_by_place : Packed K → ByPlace K X count
  runs_by_place Q = record {
    timed = record {
      keyed = record { few = Z.ordered.numbered.few; small = λ i _. Q.keys i; rises = Z.ordered.rises };
      lasts = λ i h. runs_given.lasts i h;
    };
    goes_in = λ i h g.
        let f = (Z.runs i h).1.0.found g in
        let q = next_parts (at K i) (at X i) (at K f.at) (omega (arith, (Z.runs i h).0.in_day)) f.is in
        record { row = f.at; within = f.within; place = q.0; entry = q.1 };
  }
