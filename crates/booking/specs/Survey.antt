-- Map and book written to arrays and vetted there: what is found of the arrays holds of the map and the book.
use Rattle.std.specs.Prelude.{ℕ, ◌≡◌, Result, List, length}
use Rattle.rules.specs.declared.Map.{Map}
use Rattle.rules.specs.declared.Book.{Book}
use Rattle.rules.specs.Map.{map_yard}
use Rattle.rules.specs.Book.{WellFormed, rows_of, book_of}
use Rattle.rules.specs.Gate.{Papers, BookGood, papers_of}
use Rattle.rules.specs.GateLaws.{checked_as}
use Rattle.flat.specs.Flat.{rows_in, yard_in, papers_in}
use Rattle.search.specs.Lanes.{Lanes}
use Rattle.rules.specs.declared.Refusal.{Refusal}
use Rattle.vet.specs.Vetted.{Vetted}
use Rattle.flatten.specs.Maps.{PlacesFlat, LinksFlat}
use Rattle.flatten.specs.Read.{BookRead, read_rows, read_true, read_counted}
use Rattle.flatten.specs.Given.{given}
use Rattle.keeping.specs.Books.{book_of_rows}

-- the arrays are those of a sound map and of the good book b, and all its free windows are known
pub record Ready (b : Book) (C D F T H L : List ℕ) (n k : ℕ) (K X : List ℕ) (count : ℕ) (P S E I : List ℕ) (m : ℕ) : Type 0 where
  pub lanes : Lanes C D F T H L n k (rows_in K X count) count P S E I m
  pub formed : WellFormed (yard_in C D n F T k) (rows_of b) b.next_ticket
  pub rows : rows_in K X count ≡ rows_of b
  pub whole : b ≡ book_of (rows_of b) b.next_ticket

-- what the gate says of them, the arrays being those of the map too where both are sound
abbrev pub Surveyed : Map → Book → (C D F T H L K X : List ℕ) → ℕ → (P S E I : List ℕ) → Result ℕ Refusal → Type 0
Surveyed m b C D F T H L K X count P S E I v =
    Vetted (papers_of m b) (λ w. (yard_in C D m.place_count F T m.link_count ≡ map_yard m) × Ready b C D F T H L m.place_count m.link_count K X count P S E I w) v

module _
    {m : Map} {b : Book} {C D F T K X : List ℕ} {count : ℕ} (B : BookRead b K X count)
    (places : PlacesFlat m C D) (links : LinksFlat m F T) (lp : length m.places ≡ 256) (ll : length m.links ≡ 1024) (lb : length b.rows ≡ 1024)
  where
    abbrev arrays : Papers
    arrays = papers_in C D F T m.place_count m.link_count K X count b.next_ticket

    module _ {H L P S E I : List ℕ} where
      ready : {w : ℕ} → BookGood arrays → Lanes C D F T H L m.place_count m.link_count (rows_in K X count) count P S E I w
          → Ready b C D F T H L m.place_count m.link_count K X count P S E I w
      ready {w} W l =
          let t = read_true B W.counted in
          record {
            lanes = l;
            formed = rw (read_rows B t) at W;
            rows = rw (B.whole t) (B.flat.rows t);
            whole = book_of_rows b (read_counted B W.counted) lb;
          }

      pub surveyed : {v : Result ℕ Refusal} → Vetted arrays (Lanes C D F T H L m.place_count m.link_count (rows_in K X count) count P S E I) v
          → Surveyed m b C D F T H L K X count P S E I v
      surveyed =
          let same = given places links lp ll B in
          checked_as same (λ n i _ h. h) (λ M W s. (s.0, s.1, (same.yard M, ready W s.2)))
