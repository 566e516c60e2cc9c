-- Places, links and rows read from bytes into arrays of numbers, one a turn: what the arrays hold after i turns.
-- The lists that the bytes stand for have their i-th entry at a fixed step, so arrays that agree with them index by index stand for the same lists.
use Rattle.std.specs.Prelude.{ℕ, zero, suc, ◌+◌, ◌*◌, ◌<◌, ◌≡◌, refl, List, ◌∷◌, length, set}
use Rattle.std.proofs.Common.{sym, ap, ◌∙◌, ⊎_elim, arith, length-set, get_or-set_same, get_or-set_other}
use Rattle.laws.specs.Order.{eq_or_ne}
use Rattle.laws.specs.Lists.{at, tabulate}
use Rattle.rules.specs.RowLaws.{row_eq}
use Rattle.rules.specs.Bytes.{byte_at, num2, num3, place_size, place_in, places_from, link_size, link_in, links_from, row_size, row_in, rows_from}
use Rattle.flat.specs.Flat.{one_place, places_in, one_link, links_in, rows_in, row_of, place_of, entry_of, ticket_of, exit_of, next_value, key_limit, Packed}
use Rattle.wire.specs.Tables.{tabulate_same}

-- ---- the lists that the bytes stand for, by index

pub places_table : (s : List ℕ) (a n : ℕ) → places_from s a n ≡ tabulate n (λ i. place_in s (a + place_size * i))
unfolding tabulate
places_table s a zero = refl
places_table s a (suc n) =
    let h : a ≡ a + place_size * 0 = omega arith in
    let e : (i : ℕ) → a + place_size + place_size * i ≡ a + place_size * suc i = λ i. omega arith in
    let t = places_table s (a + place_size) n ∙ tabulate_same n (λ i. place_in s (a + place_size + place_size * i)) (λ i. place_in s (a + place_size * suc i)) (λ i k. ap (place_in s) (e i)) in
    λ i. place_in s (h i) ∷ t i

pub links_table : (s : List ℕ) (a n : ℕ) → links_from s a n ≡ tabulate n (λ i. link_in s (a + link_size * i))
unfolding tabulate
links_table s a zero = refl
links_table s a (suc n) =
    let h : a ≡ a + link_size * 0 = omega arith in
    let e : (i : ℕ) → a + link_size + link_size * i ≡ a + link_size * suc i = λ i. omega arith in
    let t = links_table s (a + link_size) n ∙ tabulate_same n (λ i. link_in s (a + link_size + link_size * i)) (λ i. link_in s (a + link_size * suc i)) (λ i k. ap (link_in s) (e i)) in
    λ i. link_in s (h i) ∷ t i

pub rows_table : (s : List ℕ) (a n : ℕ) → rows_from s a n ≡ tabulate n (λ i. row_in s (a + row_size * i))
unfolding tabulate
rows_table s a zero = refl
rows_table s a (suc n) =
    let h : a ≡ a + row_size * 0 = omega arith in
    let e : (i : ℕ) → a + row_size + row_size * i ≡ a + row_size * suc i = λ i. omega arith in
    let t = rows_table s (a + row_size) n ∙ tabulate_same n (λ i. row_in s (a + row_size + row_size * i)) (λ i. row_in s (a + row_size * suc i)) (λ i k. ap (row_in s) (e i)) in
    λ i. row_in s (h i) ∷ t i

-- ---- places

pub record PlacesRead (s : List ℕ) (j : ℕ) (C D : List ℕ) : Type 0 where
  pub caps : (i : ℕ) → i < j → at C i ≡ byte_at s (4 + place_size * i)
  pub durs : (i : ℕ) → i < j → at D i ≡ num2 s (4 + place_size * i + 1)
  pub len_cap : length C ≡ 256
  pub len_dur : length D ≡ 256

-- the places of the slice, and the arrays' lengths
pub record PlacesOf (s : List ℕ) (n : ℕ) (C D : List ℕ) : Type 0 where
  pub are : places_in C D n ≡ places_from s 4 n
  pub len_cap : length C ≡ 256
  pub len_dur : length D ≡ 256

pub all_places : {s : List ℕ} {n : ℕ} {C D : List ℕ} → PlacesRead s n C D → PlacesOf s n C D
all_places {s} {n} {C} {D} P = record {
  are = tabulate_same n (one_place C D) (λ i. place_in s (4 + place_size * i)) (λ i h. let a = P.caps i h in let b = P.durs i h in λ x. record { capacity = a x; duration = b x })
      ∙ sym (places_table s 4 n);
  len_cap = P.len_cap;
  len_dur = P.len_dur;
}

-- ---- links

pub record LinksRead (s : List ℕ) (base j : ℕ) (F T : List ℕ) : Type 0 where
  pub froms : (i : ℕ) → i < j → at F i ≡ byte_at s (base + link_size * i)
  pub tos : (i : ℕ) → i < j → at T i ≡ byte_at s (base + link_size * i + 1)
  pub len_from : length F ≡ 1024
  pub len_to : length T ≡ 1024

-- the links of the slice, and the arrays' lengths
pub record LinksOf (s : List ℕ) (base k : ℕ) (F T : List ℕ) : Type 0 where
  pub are : links_in F T k ≡ links_from s base k
  pub len_from : length F ≡ 1024
  pub len_to : length T ≡ 1024

pub all_links : {s : List ℕ} {base k : ℕ} {F T : List ℕ} → LinksRead s base k F T → LinksOf s base k F T
all_links {s} {base} {k} {F} {T} P = record {
  are = tabulate_same k (one_link F T) (λ i. link_in s (base + link_size * i)) (λ i h. let a = P.froms i h in let b = P.tos i h in λ x. record { from = a x; to = b x })
      ∙ sym (links_table s base k);
  len_from = P.len_from;
  len_to = P.len_to;
}

-- ---- rows

-- a key read from a row's first seven bytes
pub record KeyRead (s : List ℕ) (at key : ℕ) : Type 0 where
  pub place : place_of key ≡ byte_at s at
  pub entry : entry_of key ≡ num3 s (at + 1)
  pub ticket : ticket_of key ≡ num3 s (at + 4)
  pub small : key < key_limit

-- a tail read from a row's last four bytes
pub record TailRead (s : List ℕ) (at tail : ℕ) : Type 0 where
  pub exit : exit_of tail ≡ num3 s (at + 7)
  pub next : next_value tail ≡ byte_at s (at + 10)

pub record RowsRead (s : List ℕ) (j : ℕ) (K X : List ℕ) : Type 0 where
  pub rows : (i : ℕ) → i < j → row_of (at K i) (at X i) ≡ row_in s (5 + row_size * i)
  pub packed : Packed K
  pub len_key : length K ≡ 1024
  pub len_tail : length X ≡ 1024

pub no_rows : (s K X : List ℕ) → length K ≡ 1024 → length X ≡ 1024 → ((i : ℕ) → at K i ≡ 0) → RowsRead s 0 K X
no_rows s K X a b zk = record {
  rows = λ i h. absurd (omega arith);
  packed = record { keys = λ i. omega (arith, zk i) };
  len_key = a;
  len_tail = b;
}

below_set : (l : List ℕ) (j v m : ℕ) → j < length l → v < m → ((i : ℕ) → at l i < m) → (i : ℕ) → at (set l j v) i < m
below_set l j v m h k old i =
    ⊎_elim (λ (q : i ≡ j). let e : at (set l j v) i ≡ v = ap (at (set l j v)) q ∙ get_or-set_same l j v 0 h in omega arith)
    (λ (q : i ≡ j → ⊥). let e : at (set l j v) i ≡ at l i = get_or-set_other l j i v 0 q in omega (arith, old i))
    (eq_or_ne i j)

pub row_read : {s : List ℕ} {j : ℕ} {K X : List ℕ} (k x : ℕ) → RowsRead s j K X → j < 1024 → KeyRead s (5 + row_size * j) k → TailRead s (5 + row_size * j) x
    → RowsRead s (j + 1) (set K j k) (set X j x)
row_read {s} {j} {K} {X} k x R h Q T = record {
  rows = λ i g. ⊎_elim
      (λ (q : i ≡ j).
      let a : at (set K j k) i ≡ k = ap (at (set K j k)) q ∙ get_or-set_same K j k 0 (omega (arith, R.len_key)) in
      let b : at (set X j x) i ≡ x = ap (at (set X j x)) q ∙ get_or-set_same X j x 0 (omega (arith, R.len_tail)) in
      let here : row_of k x ≡ row_in s (5 + row_size * j) = row_eq Q.place Q.entry Q.ticket T.exit T.next in
      rw (a, b) (here ∙ ap (λ (m : ℕ). row_in s (5 + row_size * m)) (sym q)))
      (λ (q : i ≡ j → ⊥).
      rw (get_or-set_other K j i k 0 q, get_or-set_other X j i x 0 q) (R.rows i (omega arith)))
      (eq_or_ne i j);
  packed = record { keys = below_set K j k key_limit (omega (arith, R.len_key)) Q.small R.packed.keys };
  len_key = length-set K j k ∙ R.len_key;
  len_tail = length-set X j x ∙ R.len_tail;
}

-- the rows of the slice, packed, and the arrays' lengths
pub record RowsOf (s : List ℕ) (count : ℕ) (K X : List ℕ) : Type 0 where
  pub are : rows_in K X count ≡ rows_from s 5 count
  pub packed : Packed K
  pub len_key : length K ≡ 1024
  pub len_tail : length X ≡ 1024

pub all_rows : {s : List ℕ} {count : ℕ} {K X : List ℕ} → RowsRead s count K X → RowsOf s count K X
all_rows {s} {count} {K} {X} R = record {
  are = tabulate_same count (λ i. row_of (at K i) (at X i)) (λ i. row_in s (5 + row_size * i)) R.rows ∙ sym (rows_table s 5 count);
  packed = R.packed;
  len_key = R.len_key;
  len_tail = R.len_tail;
}
