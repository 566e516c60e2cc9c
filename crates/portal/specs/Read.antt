-- Slices read into arrays: no places where the map slice has not its counts' length, and 1,025 rows where the book slice has not. No map has
-- none, no book as many; so the arrays keep the rules exactly where the slices do, and what is said of the arrays is said of the slices.
use Rattle.std.specs.Prelude.{ℕ, ◌+◌, ◌*◌, ◌≡◌, refl, Bool, true, false, List}
use Rattle.std.proofs.Common.{sym, ap₂, subst, ⊎_elim, arith}
use Rattle.laws.specs.Tests.{Decides, true_or_false}
use Rattle.laws.specs.Lists.{at}
use Rattle.rules.specs.Map.{Yard, yard_of, MapRules}
use Rattle.rules.specs.Rows.{Key, bit}
use Rattle.rules.specs.Book.{Counted}
use Rattle.rules.specs.Answer.{Planned, Paged, PlanSays, PageSays, answer_number, planned_arrival, planned_count, paged_count, paged_more}
use Rattle.rules.specs.Bytes.{num2, place_size}
use Rattle.rules.specs.Gate.{Papers}
use Rattle.rules.specs.GateLaws.{SamePapers}
use Rattle.rules.specs.Portal.{slice_places, slice_links, slice_yard, MapSlice, slice_rows, slice_ticket, CountedSlice, slice_papers, one_number, PortalPlan, PortalPage}
use Rattle.flat.specs.Flat.{places_in, links_in, yard_in, rows_in, papers_in, Packed}
use Rattle.flat.specs.Laws.{places_long, rows_long}
use Rattle.wire.specs.Reading.{PlacesOf, LinksOf, RowsOf}
use Rattle.wire.specs.Slices.{MapShape, BookShape, map_shape, book_shape, slice_places_lem, slice_links_lem, slice_rows_lem}
use Rattle.desk.specs.Transfer.{plan_as, page_as}

-- ---- the map

-- the arrays hold the slice's n places and k links; no places where its shape is wrong
pub record MapRead (s C D F T : List ℕ) (n k : ℕ) : Type 0 where
  pub read : Bool
  pub shape : Decides read (MapShape s)
  pub places : read ≡ true → places_in C D n ≡ slice_places s
  pub links : read ≡ true → links_in F T k ≡ slice_links s
  pub none : read ≡ false → n ≡ 0

pub map_misread : {b : Bool} {s : List ℕ} (C D F T : List ℕ) → Decides b (MapShape s) → b ≡ false → MapRead s C D F T 0 0
map_misread {b} {s} C D F T t f = record {
  read = b;
  shape = t;
  places = λ e. absurd (no_two e);
  links = λ e. absurd (no_two e);
  none = λ _. refl;
}
  where
    no_two : b ≡ true → ⊥
    no_two e = let z : ◌≡◌ {A = ℕ} 0 1 = cc in omega arith

pub map_read : {s C D F T : List ℕ} {n base k : ℕ} → MapShape s → PlacesOf s n C D → LinksOf s base k F T → n ≡ num2 s 0 → base ≡ 4 + place_size * n → k ≡ num2 s 2
    → MapRead s C D F T n k
map_read S P L a b c = record {
  read = true;
  shape = (λ _. S, λ _. refl);
  places = λ _. slice_places_lem P L a b c;
  links = λ _. slice_links_lem P L a b c;
  none = λ e. let z : ◌≡◌ {A = ℕ} 0 1 = cc in absurd (omega arith);
}

module _ {s C D F T : List ℕ} {n k : ℕ} (R : MapRead s C D F T n k) where
  -- a map has places
  map_true : MapRules (places_in C D n) (links_in F T k) → R.read ≡ true
  map_true M = ⊎_elim (λ t. t) (λ f. absurd (omega (arith, M.some, places_long C D n, R.none f))) (true_or_false R.read)

  pub map_to : MapRules (places_in C D n) (links_in F T k) → MapSlice s
  map_to M =
      let t = map_true M in
      let S = R.shape.0 t in
      record { counts = S.counts; fits = S.fits; rules = rw (R.places t, R.links t) at M }

  pub map_of : MapSlice s → MapRules (places_in C D n) (links_in F T k)
  map_of M = let t = R.shape.1 (map_shape M) in rw (R.places t, R.links t) M.rules

  pub map_yard : MapRules (places_in C D n) (links_in F T k) → yard_in C D n F T k ≡ slice_yard s
  map_yard M = let t = map_true M in ap₂ yard_of (R.places t) (R.links t)

-- ---- the book

-- the arrays hold the slice's rows, count of them; 1,025 where its shape is wrong
pub record BookRead (s K X : List ℕ) (count ticket : ℕ) : Type 0 where
  pub packed : Packed K
  pub read : Bool
  pub shape : Decides read (BookShape s)
  pub rows : read ≡ true → rows_in K X count ≡ slice_rows s
  pub issues : read ≡ true → ticket ≡ slice_ticket s
  pub none : read ≡ false → count ≡ 1025

pub book_misread : {b : Bool} {s : List ℕ} (K X : List ℕ) → ((i : ℕ) → at K i ≡ 0) → Decides b (BookShape s) → b ≡ false → BookRead s K X 1025 0
book_misread {b} {s} K X zk t f = record {
  packed = record { keys = λ i. omega (arith, zk i) };
  read = b;
  shape = t;
  rows = λ e. absurd (no_two e);
  issues = λ e. absurd (no_two e);
  none = λ _. refl;
}
  where
    no_two : b ≡ true → ⊥
    no_two e = let z : ◌≡◌ {A = ℕ} 0 1 = cc in omega arith

pub book_read : {s K X : List ℕ} {count ticket : ℕ} → BookShape s → RowsOf s count K X → count ≡ num2 s 3 → ticket ≡ slice_ticket s → BookRead s K X count ticket
book_read S R a b = record {
  packed = R.packed;
  read = true;
  shape = (λ _. S, λ _. refl);
  rows = λ _. slice_rows_lem R a;
  issues = λ _. b;
  none = λ e. let z : ◌≡◌ {A = ℕ} 0 1 = cc in absurd (omega arith);
}

module _ {s K X : List ℕ} {count ticket : ℕ} (R : BookRead s K X count ticket) where
  module _ {Y : Yard} (C : Counted Y (rows_in K X count) ticket) where
    -- 1,025 rows are too many
    book_true : R.read ≡ true
    book_true = ⊎_elim (λ t. t) (λ f. absurd (omega (arith, C.few, rows_long K X count, R.none f))) (true_or_false R.read)

    pub counted_to : CountedSlice Y s
    counted_to = let S = R.shape.0 book_true in record { head = S.counts; fits = S.fits; counts = rw (R.rows book_true, R.issues book_true) at C }

    pub book_rows : rows_in K X count ≡ slice_rows s
    book_rows = R.rows book_true

  pub counted_of : {Y : Yard} → CountedSlice Y s → Counted Y (rows_in K X count) ticket
  counted_of S = let t = R.shape.1 (book_shape S) in rw (R.rows t, R.issues t) S.counts

-- ---- what is said of the arrays is said of the slices

module _ {map book C D F T K X : List ℕ} {n k count ticket : ℕ} (M : MapRead map C D F T n k) (B : BookRead book K X count ticket) where
  abbrev arrays : Papers
  arrays = papers_in C D F T n k K X count ticket

  read : SamePapers arrays (slice_papers map book)
  read = record {
    map_to = map_to M;
    map_of = map_of M;
    counted_to = λ R C. subst (λ (z : Yard). CountedSlice z book) (map_yard M R) (counted_to B C);
    counted_of = λ R S. counted_of B (subst (λ (z : Yard). CountedSlice z book) (sym (map_yard M R)) S);
    yard = map_yard M;
    rows = λ R C. book_rows B C;
  }

  pub portal_plan : {start dest s : ℕ} {was out : List ℕ} {p : Planned} {r : ℕ} → PlanSays arrays start dest s was out p
      → r ≡ one_number (answer_number p) (planned_arrival p) (planned_count p) → PortalPlan map book start dest s was out r
  portal_plan {p = p} x e = record { answer = p; says = plan_as read x; result = e }

  pub portal_page : {size : ℕ} {c : Key} {was out : List ℕ} {p : Paged} {r : ℕ} → PageSays arrays size c was out p
      → r ≡ one_number (answer_number p) (bit (paged_more p)) (paged_count p) → PortalPage map book size c was out r
  portal_page {p = p} x e = record { answer = p; says = page_as read x; result = e }
