-- Arrays that were read off a map and a book by value are the same papers: good exactly where these are.
use Rattle.std.specs.Prelude.{ℕ, ◌≡◌, List, length}
use Rattle.std.proofs.Common.{sym, subst}
use Rattle.rules.specs.declared.Map.{Map}
use Rattle.rules.specs.declared.Book.{Book}
use Rattle.rules.specs.Map.{Yard, map_yard}
use Rattle.rules.specs.Book.{CountedBook}
use Rattle.rules.specs.Gate.{Papers, papers_of}
use Rattle.rules.specs.GateLaws.{SamePapers}
use Rattle.flat.specs.Flat.{papers_in}
use Rattle.flatten.specs.Maps.{PlacesFlat, LinksFlat, good_flat, flat_good, yard_same}
use Rattle.flatten.specs.Read.{BookRead, read_rows, read_true, read_counted, counted_read}

module _ {m : Map} {b : Book} {C D F T K X : List ℕ} {count : ℕ} (P : PlacesFlat m C D) (L : LinksFlat m F T) (places : length m.places ≡ 256) (links : length m.links ≡ 1024)
    (B : BookRead b K X count) where
  abbrev arrays : Papers
  arrays = papers_in C D F T m.place_count m.link_count K X count b.next_ticket

  same_yard : arrays.map_good → arrays.yard ≡ map_yard m
  same_yard M = yard_same P L places links (flat_good P L places links M)

  pub given : SamePapers arrays (papers_of m b)
  given = record {
    map_to = flat_good P L places links;
    map_of = good_flat P L places links;
    counted_to = λ M C. subst (λ (z : Yard). CountedBook z b) (same_yard M) (read_counted B C);
    counted_of = λ M G. counted_read B (subst (λ (z : Yard). CountedBook z b) (sym (same_yard M)) G);
    yard = same_yard;
    rows = λ M C. read_rows B (read_true B C);
  }
