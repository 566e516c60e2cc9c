-- What a map's arrays are tested for, and that the tests together are the map's rules: the rules speak of the lists of places and links
-- that the arrays stand for, and the test of the entry at an index is the rule at that index.
use Rattle.std.specs.Prelude.{ℕ, ◌≤◌, ◌<◌, ◌≡◌, refl, Bool, true, false, List, length}
use Rattle.std.proofs.Common.{sym, ap, ◌∙◌, arith}
use Rattle.laws.specs.Tests.{not_both}
use Rattle.laws.specs.Lists.{at}
use Rattle.rules.specs.declared.Link.{Link}
use Rattle.rules.specs.Limits.{capacity_limit, duration_limit}
use Rattle.rules.specs.Map.{MapRules}
use Rattle.flat.specs.Flat.{places_in, links_in, Chained}
use Rattle.flat.specs.Laws.{places_long, place_in, links_long, link_in}

-- a capacity and a duration within the limits
pub record PlaceFits (c d : ℕ) : Type 0 where
  pub cap_from : 1 ≤ c
  pub cap_to : c ≤ capacity_limit
  pub dur_from : 1 ≤ d
  pub dur_to : d ≤ duration_limit

-- a link between two different places of n
pub record LinkFits (n f t : ℕ) : Type 0 where
  pub from_on : f < n
  pub to_on : t < n
  pub apart : f ≡ t → ⊥

pub record PlacesFit (C D : List ℕ) (n : ℕ) : Type 0 where
  pub each : (p : ℕ) → p < n → PlaceFits (at C p) (at D p)

pub record LinksFit (F T : List ℕ) (n k : ℕ) : Type 0 where
  pub each : (j : ℕ) → j < k → LinkFits n (at F j) (at T j)

-- no two of the first k links leave p for the same place
pub record OnceFrom (F T : List ℕ) (k p : ℕ) : Type 0 where
  pub twice : (i j : ℕ) → i < j → j < k → at F i ≡ p → at F j ≡ p → at T i ≡ at T j → ⊥

-- no two of the first k links are the same
pub record Once (F T : List ℕ) (k : ℕ) : Type 0 where
  pub twice : (i j : ℕ) → i < j → j < k → at F i ≡ at F j → at T i ≡ at T j → ⊥

-- what the test of a map answers, and the links by place that it leaves
pub record MapFits (n k : ℕ) (C D F T H N : List ℕ) (r : Bool) : Type 0 where
  pub kept : r ≡ true → MapRules (places_in C D n) (links_in F T k)
  pub chained : r ≡ true → Chained F k H N
  pub all : MapRules (places_in C D n) (links_in F T k) → r ≡ true
  pub len_head : length H ≡ 256
  pub len_chain : length N ≡ 1024

-- ---- the tests together are the rules

module _ (C D F T : List ℕ) (n k : ℕ) where
  pub rules_kept : 1 ≤ n → n ≤ 256 → k ≤ 1024 → PlacesFit C D n → LinksFit F T n k → Once F T k → MapRules (places_in C D n) (links_in F T k)
  rules_kept some few few_links P L O =
      let a = places_long C D n in
      let b = links_long F T k in
      record {
        some = omega arith;
        few = omega arith;
        cap_from = λ p h. rw (place_in C D n p (omega arith)) (P.each p (omega arith)).cap_from;
        cap_to = λ p h. rw (place_in C D n p (omega arith)) (P.each p (omega arith)).cap_to;
        dur_from = λ p h. rw (place_in C D n p (omega arith)) (P.each p (omega arith)).dur_from;
        dur_to = λ p h. rw (place_in C D n p (omega arith)) (P.each p (omega arith)).dur_to;
        few_links = omega arith;
        from_on = λ i h. rw (link_in F T k i (omega arith)) (omega (arith, (L.each i (omega arith)).from_on));
        to_on = λ i h. rw (link_in F T k i (omega arith)) (omega (arith, (L.each i (omega arith)).to_on));
        apart = λ i h. rw (link_in F T k i (omega arith)) (L.each i (omega arith)).apart;
        once = λ i j h g e.
            let q = sym (link_in F T k i (omega arith)) ∙ e ∙ link_in F T k j (omega arith) in
            O.twice i j h (omega arith) (ap (λ (x : Link). x.from) q) (ap (λ (x : Link). x.to) q);
      }

  module _ (M : MapRules (places_in C D n) (links_in F T k)) where
    pub rules_some : 1 ≤ n
    rules_some = omega (arith, M.some, places_long C D n)

    pub rules_few : n ≤ 256
    rules_few = omega (arith, M.few, places_long C D n)

    pub rules_few_links : k ≤ 1024
    rules_few_links = omega (arith, M.few_links, links_long F T k)

    pub rules_places : PlacesFit C D n
    rules_places = record {
      each = λ p h.
          let g : p < length (places_in C D n) = omega (arith, places_long C D n) in
          let e = place_in C D n p h in
          record { cap_from = rw e at (M.cap_from p g); cap_to = rw e at (M.cap_to p g); dur_from = rw e at (M.dur_from p g); dur_to = rw e at (M.dur_to p g) };
    }

    pub rules_links : LinksFit F T n k
    rules_links = record {
      each = λ j h.
          let g : j < length (links_in F T k) = omega (arith, links_long F T k) in
          let e = link_in F T k j h in
          let l = places_long C D n in
          record { from_on = rw (e, l) at (M.from_on j g); to_on = rw (e, l) at (M.to_on j g); apart = rw e at (M.apart j g) };
    }

    pub rules_once : Once F T k
    rules_once = record { twice = λ i j h g a b. M.once i j h (omega (arith, links_long F T k)) (link_in F T k i (omega arith) ∙ (λ x. record { from = a x; to = b x }) ∙ sym (link_in F T k j g)) }

-- ---- the answers: false where a test fails, and the last test's answer where all before it hold

module _ {n k : ℕ} {C D F T H N : List ℕ} (h : length H ≡ 256) (c : length N ≡ 1024) where
  pub refused : (MapRules (places_in C D n) (links_in F T k) → ⊥) → MapFits n k C D F T H N false
  refused bad = record { kept = λ q. absurd (not_both q refl); chained = λ q. absurd (not_both q refl); all = λ M. absurd (bad M); len_head = h; len_chain = c }

  pub bad_place : (PlacesFit C D n → ⊥) → MapFits n k C D F T H N false
  bad_place bad = refused (λ M. bad (rules_places C D F T n k M))

  pub bad_link : (LinksFit F T n k → ⊥) → MapFits n k C D F T H N false
  bad_link bad = refused (λ M. bad (rules_links C D F T n k M))

  pub answered : {r : Bool} → 1 ≤ n → n ≤ 256 → k ≤ 1024 → PlacesFit C D n → LinksFit F T n k → Chained F k H N
      → (r ≡ true → Once F T k) × (Once F T k → r ≡ true) → MapFits n k C D F T H N r
  answered some few few_links P L K O = record {
    kept = λ t. rules_kept C D F T n k some few few_links P L (O.0 t);
    chained = λ _. K;
    all = λ M. O.1 (rules_once C D F T n k M);
    len_head = h;
    len_chain = c;
  }
