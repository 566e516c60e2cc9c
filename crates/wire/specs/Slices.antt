-- A map slice and a book slice are good exactly when their shape is, the length that the counts give and counts within the limits, and what the arrays
-- read from them hold keeps the rules. The limits on the counts are among the rules, since the lists read have as many entries as the counts say.
use Rattle.std.specs.Prelude.{ℕ, ◌+◌, ◌*◌, ◌≤◌, ◌≡◌, false, List, length}
use Rattle.std.proofs.Common.{ap, ap₂, ◌∙◌, arith}
use Rattle.laws.specs.Lists.{length_tabulate}
use Rattle.laws.specs.Tests.{Decides}
use Rattle.rules.specs.Limits.{place_limit, link_limit, row_limit}
use Rattle.rules.specs.Map.{Yard}
use Rattle.rules.specs.Bytes.{num2, place_size, place_in, places_from, link_size, link_in, links_from, row_size, row_in, rows_from}
use Rattle.rules.specs.Portal.{slice_places, slice_links, MapSlice, slice_rows, CountedSlice}
use Rattle.flat.specs.Flat.{places_in, links_in, rows_in}
use Rattle.wire.specs.Reading.{PlacesOf, LinksOf, RowsOf, places_table, links_table, rows_table}

-- a shape that the slice has not, answered false
pub refused : {A : Type 0} → (A → ⊥) → Decides false A
refused f = (λ e. let z : ◌≡◌ {A = ℕ} 0 1 = cc in absurd (omega arith), λ a. absurd (f a))

-- ---- the map's slice

pub record MapShape (s : List ℕ) : Type 0 where
  pub counts : 4 ≤ length s
  pub fits : length s ≡ 4 + place_size * num2 s 0 + link_size * num2 s 2
  pub few : num2 s 0 ≤ place_limit
  pub few_links : num2 s 2 ≤ link_limit

places_count : (s : List ℕ) (a n : ℕ) → length (places_from s a n) ≡ n
places_count s a n = ap length (places_table s a n) ∙ length_tabulate n (λ i. place_in s (a + place_size * i))

links_count : (s : List ℕ) (a n : ℕ) → length (links_from s a n) ≡ n
links_count s a n = ap length (links_table s a n) ∙ length_tabulate n (λ i. link_in s (a + link_size * i))

rows_count : (s : List ℕ) (a n : ℕ) → length (rows_from s a n) ≡ n
rows_count s a n = ap length (rows_table s a n) ∙ length_tabulate n (λ i. row_in s (a + row_size * i))

pub map_shape : {s : List ℕ} → MapSlice s → MapShape s
map_shape {s} M = record {
  counts = M.counts;
  fits = M.fits;
  few = omega (arith, M.rules.few, places_count s 4 (num2 s 0));
  few_links = omega (arith, M.rules.few_links, links_count s (4 + place_size * num2 s 0) (num2 s 2));
}

-- the arrays read from the slice, n places and k links of them
module _ {s C D F T : List ℕ} {n base k : ℕ}
    (P : PlacesOf s n C D) (L : LinksOf s base k F T) (is-n : n ≡ num2 s 0) (is_base : base ≡ 4 + place_size * n) (is-k : k ≡ num2 s 2) where
  pub slice_places_lem : places_in C D n ≡ slice_places s
  slice_places_lem = P.are ∙ ap (places_from s 4) is-n

  pub slice_links_lem : links_in F T k ≡ slice_links s
  slice_links_lem = L.are ∙ ap₂ (links_from s) (is_base ∙ ap (λ (x : ℕ). 4 + place_size * x) is-n) is-k

-- ---- the book's slice

pub record BookShape (s : List ℕ) : Type 0 where
  pub counts : 5 ≤ length s
  pub fits : length s ≡ 5 + row_size * num2 s 3
  pub few : num2 s 3 ≤ row_limit

pub book_shape : {Y : Yard} {s : List ℕ} → CountedSlice Y s → BookShape s
book_shape {Y} {s} C = record { counts = C.head; fits = C.fits; few = omega (arith, C.counts.few, rows_count s 5 (num2 s 3)) }

-- the arrays read from the slice, count rows of them
module _ {s K X : List ℕ} {count : ℕ} (R : RowsOf s count K X) (is-count : count ≡ num2 s 3) where
  pub slice_rows_lem : rows_in K X count ≡ slice_rows s
  slice_rows_lem = R.are ∙ ap (rows_from s 5) is-count
