-- Laws of the arrays' views.
use Rattle.std.specs.Prelude.{ℕ, zero, suc, ◌+◌, ◌≤◌, ◌<◌, ◌≡◌, refl, List, length}
use Rattle.std.proofs.Common.{sym, ap, ◌∙◌, ⊎_elim, arith, eq-eqb, ne_eqb}
use Rattle.std.specs.Array.{AllOfLen}
use Rattle.std.proofs.lemmas.List.{get_or_past}
use Rattle.laws.specs.Order.{lt_or_ge, eq_or_ne}
use Rattle.laws.specs.Lists.{at, length_tabulate, get_or_tabulate}
use Rattle.rules.specs.declared.Place.{Place}
use Rattle.rules.specs.Map.{MapRules, no_place, place_at, no_link, link_at}
use Rattle.rules.specs.Rows.{no_row, row_at}
use Rattle.lanes.specs.Yards.{yard_rules}
use Rattle.flat.specs.Flat.{one_place, one_link, places_in, links_in, yard_in, Of, last_before, row_of, rows_in, place_of, entry_of, ticket_of, key_of, exit_of, next_value, tail_value}

pub places_long : (C D : List ℕ) (n : ℕ) → length (places_in C D n) ≡ n
places_long C D n = length_tabulate n (one_place C D)

pub place_in : (C D : List ℕ) (n p : ℕ) → p < n → place_at (places_in C D n) p ≡ one_place C D p
place_in C D n p h = get_or_tabulate n (one_place C D) p no_place h

pub links_long : (F T : List ℕ) (k : ℕ) → length (links_in F T k) ≡ k
links_long F T k = length_tabulate k (one_link F T)

pub link_in : (F T : List ℕ) (k j : ℕ) → j < k → link_at (links_in F T k) j ≡ one_link F T j
link_in F T k j h = get_or_tabulate k (one_link F T) j no_link h

pub rows_long : (K X : List ℕ) (count : ℕ) → length (rows_in K X count) ≡ count
rows_long K X count = length_tabulate count (λ i. row_of (at K i) (at X i))

pub row_in : (K X : List ℕ) (count i : ℕ) → i < count → row_at (rows_in K X count) i ≡ row_of (at K i) (at X i)
row_in K X count i h = get_or_tabulate count (λ i. row_of (at K i) (at X i)) i no_row h

-- the yard of arrays that keep the rules
pub yard_of : (C D F T : List ℕ) (n k : ℕ) → MapRules (places_in C D n) (links_in F T k) → Of (yard_in C D n F T k) C D n
yard_of C D F T n k M =
    let R = yard_rules M in
    let l = places_long C D n in
    record {
      places = l;
      caps = λ p h. ap (λ (x : Place). x.capacity) (place_in C D n p h);
      durs = λ p h. ap (λ (x : Place). x.duration) (place_in C D n p h);
      off = λ p h. R.off p (omega arith);
      long = R.long;
    }

-- a key's parts, and a key of parts
pub key_parts : (a : ℕ) → a ≡ key_of (place_of a) (entry_of a) (ticket_of a)
key_parts a = omega arith

module _ (p e t : ℕ) (he : e < 16777216) (ht : t < 16777216) where
  pub place_of_key : place_of (key_of p e t) ≡ p
  place_of_key = omega arith

  pub entry_of_key : entry_of (key_of p e t) ≡ e
  entry_of_key = omega arith

  pub ticket_of_key : ticket_of (key_of p e t) ≡ t
  ticket_of_key = omega arith

-- a tail of parts
module _ (x q : ℕ) (hq : q < 256) where
  pub exit_of_tail : exit_of (tail_value x q) ≡ x
  exit_of_tail = omega arith

  pub next_of_tail : next_value (tail_value x q) ≡ q
  next_of_tail = omega arith

  pub tail_of_parts : (tail : ℕ) → exit_of tail ≡ x → next_value tail ≡ q → tail ≡ tail_value x q
  tail_of_parts tail e f = omega arith

-- links by place
pub last_here : (F : List ℕ) (p k : ℕ) → at F k ≡ p → last_before F p (k + 1) ≡ suc k
unfolding last_before
last_here F p k e = let o : k + 1 ≡ suc k = omega arith in rw (o, eq-eqb (at F k) p e, last_before) refl

pub last_other : (F : List ℕ) (p k : ℕ) → (at F k ≡ p → ⊥) → last_before F p (k + 1) ≡ last_before F p k
unfolding last_before
last_other F p k e = let o : k + 1 ≡ suc k = omega arith in rw (o, ne_eqb (at F k) p e, last_before) refl

-- what the last link of p among the first k is: it leaves p, and none after it does
pub record LastIs (F : List ℕ) (p k r : ℕ) : Type 0 where
  pub within : r ≤ k
  pub leaves : (j : ℕ) → suc j ≡ r → at F j ≡ p
  pub none : (j : ℕ) → r ≤ j → j < k → at F j ≡ p → ⊥

pub last_is : (F : List ℕ) (p k : ℕ) → LastIs F p k (last_before F p k)
unfolding last_before
last_is F p zero = record { within = omega arith; leaves = λ j e. absurd (omega arith); none = λ j a b. absurd (omega arith) }
last_is F p (suc k) = ⊎_elim (λ e. yes e) (λ e. no e (last_is F p k)) (eq_or_ne (at F k) p)
  where
    yes : at F k ≡ p → LastIs F p (suc k) (last_before F p (suc k))
    yes e = rw (eq-eqb (at F k) p e, last_before) (record {
      within = omega arith;
      leaves = λ j q. let z : j ≡ k = omega arith in ap (at F) z ∙ e;
      none = λ j a b. absurd (omega arith);
    })

    no : (at F k ≡ p → ⊥) → LastIs F p k (last_before F p k) → LastIs F p (suc k) (last_before F p (suc k))
    no e I = rw (ne_eqb (at F k) p e, last_before) (record {
      within = omega (arith, I.within);
      leaves = I.leaves;
      none = λ j a b q. ⊎_elim (λ (c : j < k). I.none j a c q) (λ (c : k ≤ j). let z : j ≡ k = omega arith in e (ap (at F) (sym z) ∙ q)) (lt_or_ge j k);
    })

-- an array that is made by default holds zeros
pub blank : {P : ℕ → Type 0} {xs : List ℕ} {n : ℕ} → ((x : ℕ) → P x → x ≡ 0) → AllOfLen P xs n → (i : ℕ) → at xs i ≡ 0
blank {xs = xs} {n = n} zero_is A i = ⊎_elim (λ (h : i < n). zero_is (at xs i) (A.at i 0 h)) (λ (h : n ≤ i). get_or_past xs i 0 (omega (arith, A.long))) (lt_or_ge i n)
