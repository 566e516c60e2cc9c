-- Links by place: how the lists of links are made, what a walk along a place's list has passed, and what the marks of the places met tell.
-- A place's list holds its links from the last to the first, so the links passed are those from the walk's link on.
use Rattle.std.specs.Prelude.{ℕ, zero, suc, ◌+◌, ◌-◌, ◌≤◌, ◌<◌, ◌≡◌, refl, ◌⊎◌, Bool, true, false, ◌&&◌, List, [], ◌∷◌, length, set, replicate, eqb}
use Rattle.std.proofs.Common.{sym, ap, subst, ◌∙◌, inl, inr, ⊎_elim, arith, length-set, get_or-set_same, get_or-set_other, eq-eqb, below_more}
use Rattle.std.proofs.lemmas.List.{length-replicate}
use Rattle.laws.specs.Order.{lt_or_ge, eq_or_ne}
use Rattle.laws.specs.Tests.{true_or_false, and_in, or_l, or_r}
use Rattle.laws.specs.Lists.{at, zeros}
use Rattle.rules.specs.declared.Link.{Link}
use Rattle.rules.specs.Map.{link_at, linked}
use Rattle.lanes.specs.Yards.{linked_at}
use Rattle.flat.specs.Flat.{links_in, last_before, Chained}
use Rattle.flat.specs.Laws.{links_long, link_in, last_here, last_other, last_is}
use Rattle.mapfit.specs.Fits.{OnceFrom, Once}

-- ---- the lists are made, a link a turn

pub record Linking (F : List ℕ) (j : ℕ) (H N : List ℕ) : Type 0 where
  pub lists : Chained F j H N
  pub len_head : length H ≡ 256
  pub len_chain : length N ≡ 1024

pub linking_first : (F H N : List ℕ) → length H ≡ 256 → length N ≡ 1024 → ((p : ℕ) → at H p ≡ 0) → Linking F 0 H N
unfolding last_before
linking_first F H N a b z = record {
  lists = record { head = λ p h. z p; link = λ j h. absurd (omega arith) };
  len_head = a;
  len_chain = b;
}

linking_here : (F : List ℕ) (j : ℕ) (H N : List ℕ) → Linking F j H N → j < 1024 → at F j < 256
    → Linking F (j + 1) (set H (at F j) (j + 1)) (set N j (at H (at F j)))
linking_here F j H N L h f = record {
  lists = record {
    head = λ p g. ⊎_elim
        (λ (e : p ≡ at F j). ap (at (set H (at F j) (j + 1))) e ∙ get_or-set_same H (at F j) (j + 1) 0 (omega (arith, L.len_head)) ∙ (let s : j + 1 ≡ suc j = omega arith in s) ∙ sym (last_here F p j (sym e)))
        (λ (e : p ≡ at F j → ⊥). get_or-set_other H (at F j) p (j + 1) 0 e ∙ L.lists.head p g ∙ sym (last_other F p j (λ q. e (sym q))))
        (eq_or_ne p (at F j));
    link = λ i g. ⊎_elim
        (λ (e : i ≡ j). ap (at (set N j (at H (at F j)))) e ∙ get_or-set_same N j (at H (at F j)) 0 (omega (arith, L.len_chain)) ∙ L.lists.head (at F j) f ∙ ap (λ (x : ℕ). last_before F (at F x) x) (sym e))
        (λ (e : i ≡ j → ⊥). get_or-set_other N j i (at H (at F j)) 0 e ∙ L.lists.link i (omega arith))
        (eq_or_ne i j);
  };
  len_head = length-set H (at F j) (j + 1) ∙ L.len_head;
  len_chain = length-set N j (at H (at F j)) ∙ L.len_chain;
}

pub linking_turn : (F : List ℕ) (j f : ℕ) (H N : List ℕ) → Linking F j H N → j < 1024 → f ≡ at F j → f < 256
    → Linking F (j + 1) (set H f (j + 1)) (set N j (at H f))
linking_turn F j f H N L h e b = rw e (linking_here F j H N L h (omega arith))

-- a link's number falls along a list
module _ {F : List ℕ} {k : ℕ} {H N : List ℕ} (L : Chained F k H N) where
  pub head_within : (p : ℕ) → p < 256 → at H p ≤ k
  head_within p h = omega (arith, L.head p h, (last_is F p k).within)

  pub chain_within : (j : ℕ) → j < k → at N j ≤ j
  chain_within j h = omega (arith, L.link j h, (last_is F (at F j) j).within)

-- ---- a walk along the links of p: before link l - 1 all later ones are passed, and each is as P says

pub record Walk (F : List ℕ) (p k l : ℕ) (P : ℕ → Type 0) : Type 0 where
  pub within : l ≤ k
  pub leaves : (j : ℕ) → suc j ≡ l → at F j ≡ p
  pub passed : (j : ℕ) → l ≤ j → j < k → at F j ≡ p → P j

module _ (F H N : List ℕ) (p k : ℕ) (L : Chained F k H N) (P : ℕ → Type 0) where
  pub walk_first : p < 256 → Walk F p k (at H p) P
  walk_first h = let I = last_is F p k in rw (L.head p h) (record { within = I.within; leaves = I.leaves; passed = λ j a b e. absurd (I.none j a b e) })

  module _ (l : ℕ) (W : Walk F p k l P) (h : 0 < l) where
    walk_link : at F (l - 1) ≡ p
    walk_link = W.leaves (l - 1) (omega arith)

    walk_next : at N (l - 1) ≡ last_before F p (l - 1)
    walk_next = L.link (l - 1) (omega (arith, W.within)) ∙ ap (λ (x : ℕ). last_before F x (l - 1)) walk_link

    pub walk_turn : P (l - 1) → Walk F p k (at N (l - 1)) P
    walk_turn x =
        let I = last_is F p (l - 1) in
        rw walk_next (record {
          within = omega (arith, I.within, W.within);
          leaves = I.leaves;
          passed = λ j a b e.
              ⊎_elim (λ (c : j < l - 1). absurd (I.none j a c e))
              (λ (c : l - 1 ≤ j). ⊎_elim (λ (d : l ≤ j). W.passed j d b e) (λ (d : j < l). subst P (omega arith) x) (le_or_gt l j))
              (lt_or_ge j (l - 1));
        })
      where
        le_or_gt : (a b : ℕ) → (a ≤ b) ⊎ (b < a)
        le_or_gt a b = ⊎_elim (λ (c : b < a). inr c) (λ (c : a ≤ b). inl c) (lt_or_ge b a)

pub walk_as : {F : List ℕ} {p k l : ℕ} {P Q : ℕ → Type 0} → Walk F p k l P → ((j : ℕ) → l ≤ j → j < k → at F j ≡ p → P j → Q j) → Walk F p k l Q
walk_as W f = record { within = W.within; leaves = W.leaves; passed = λ j a b e. f j a b e (W.passed j a b e) }

-- ---- is there a link from p to q

abbrev pub Elsewhere : List ℕ → ℕ → ℕ → Type 0
Elsewhere T q j = at T j ≡ q → ⊥

pub linked_in : (ls : List Link) (p q i : ℕ) → i < length ls → (link_at ls i).from ≡ p → (link_at ls i).to ≡ q → linked ls p q ≡ true
unfolding linked
linked_in [] p q i h a b = absurd (omega arith)
linked_in (l ∷ ls) p q zero h a b = or_l (linked ls p q) (and_in (eq-eqb l.from p a) (eq-eqb l.to q b))
linked_in (l ∷ ls) p q (suc i) h a b = or_r (eqb l.from p && eqb l.to q) (linked_in ls p q i (omega arith) a b)

module _ (F T : List ℕ) (p q k : ℕ) where
  pub linked_found : (j : ℕ) → j < k → at F j ≡ p → at T j ≡ q → true ≡ linked (links_in F T k) p q
  linked_found j h a b =
      let e = link_in F T k j h in
      sym (linked_in (links_in F T k) p q j (omega (arith, links_long F T k)) (ap (λ (x : Link). x.from) e ∙ a) (ap (λ (x : Link). x.to) e ∙ b))

  pub linked_nowhere : Walk F p k 0 (Elsewhere T q) → false ≡ linked (links_in F T k) p q
  linked_nowhere W = ⊎_elim
      (λ (t : linked (links_in F T k) p q ≡ true).
      let x = linked_at (links_in F T k) p q t in
      let h : x.at < k = omega (arith, x.within, links_long F T k) in
      let e = link_in F T k x.at h in
      absurd (W.passed x.at (omega arith) h (sym (ap (λ (y : Link). y.from) e) ∙ x.from) (sym (ap (λ (y : Link). y.to) e) ∙ x.to)))
      (λ (t : linked (links_in F T k) p q ≡ false). sym t)
      (true_or_false (linked (links_in F T k) p q))

-- ---- marks: the places that the links passed go to have the mark p + 1, all others have less

module _ (F T : List ℕ) (p k : ℕ) where
  -- the link goes to a marked place, and none after it goes there
  pub record Marked (M : List ℕ) (j : ℕ) : Type 0 where
    pub mark : at M (at T j) ≡ p + 1
    pub once : (i : ℕ) → j < i → i < k → at F i ≡ p → at T j ≡ at T i → ⊥

  -- a link passed that goes to q
  pub record Passed (l q : ℕ) : Type 0 where
    pub link : ℕ
    pub from : l ≤ link
    pub below : link < k
    pub leaves : at F link ≡ p
    pub to : at T link ≡ q

  pub record Marking (l : ℕ) (M : List ℕ) : Type 0 where
    pub walk : Walk F p k l (Marked M)
    pub met : (q : ℕ) → at M q ≡ p + 1 → Passed l q
    pub low : (q : ℕ) → at M q ≤ p + 1
    pub long : length M ≡ 256

  module _ (H N : List ℕ) (L : Chained F k H N) where
    pub marking_first : (M : List ℕ) → p < 256 → length M ≡ 256 → ((q : ℕ) → at M q ≤ p) → Marking (at H p) M
    marking_first M h l m = record {
      walk = walk_first F H N p k L (Marked M) h;
      met = λ q e. absurd (omega (arith, m q));
      low = λ q. omega (arith, m q);
      long = l;
    }

    module _ (l : ℕ) (M : List ℕ) (K : Marking l M) (h : 0 < l) where
      marking_here : at T (l - 1) < 256 → (at M (at T (l - 1)) ≡ p + 1 → ⊥) → Marking (at N (l - 1)) (set M (at T (l - 1)) (p + 1))
      marking_here t free = record {
        walk = walk_turn F H N p k L (Marked M') l (walk_as K.walk kept) h here;
        met = λ q e. ⊎_elim
            (λ (c : q ≡ at T (l - 1)). record { link = l - 1; from = omega (arith, falls); below = omega (arith, K.walk.within); leaves = K.walk.leaves (l - 1) (omega arith); to = sym c })
            (λ (c : q ≡ at T (l - 1) → ⊥). let x = K.met q (sym (other q c) ∙ e) in record { link = x.link; from = omega (arith, falls, x.from); below = x.below; leaves = x.leaves; to = x.to })
            (eq_or_ne q (at T (l - 1)));
        low = λ q. ⊎_elim (λ (c : q ≡ at T (l - 1)). omega (arith, ap (at M') c, same)) (λ (c : q ≡ at T (l - 1) → ⊥). omega (arith, other q c, K.low q)) (eq_or_ne q (at T (l - 1)));
        long = length-set M (at T (l - 1)) (p + 1) ∙ K.long;
      }
        where
          M' : List ℕ
          M' = set M (at T (l - 1)) (p + 1)

          falls : at N (l - 1) < l
          falls = omega (arith, chain_within L (l - 1) (omega (arith, K.walk.within)))

          same : at M' (at T (l - 1)) ≡ p + 1
          same = get_or-set_same M (at T (l - 1)) (p + 1) 0 (omega (arith, K.long))

          other : (q : ℕ) → (q ≡ at T (l - 1) → ⊥) → at M' q ≡ at M q
          other q c = get_or-set_other M (at T (l - 1)) q (p + 1) 0 c

          kept : (j : ℕ) → l ≤ j → j < k → at F j ≡ p → Marked M j → Marked M' j
          kept j a b e m = record {
            mark = ⊎_elim (λ (c : at T j ≡ at T (l - 1)). ap (at M') c ∙ same) (λ (c : at T j ≡ at T (l - 1) → ⊥). other (at T j) c ∙ m.mark) (eq_or_ne (at T j) (at T (l - 1)));
            once = m.once;
          }

          here : Marked M' (l - 1)
          here = record { mark = same; once = λ i a b e q. free (ap (at M) q ∙ (K.walk.passed i (omega arith) b e).mark) }

      pub marking_turn : (q : ℕ) → q ≡ at T (l - 1) → q < 256 → (at M q ≡ p + 1 → ⊥) → Marking (at N (l - 1)) (set M q (p + 1))
      marking_turn q e b free = rw e (marking_here (omega arith) (λ m. free (ap (at M) e ∙ m)))

-- ---- place by place

-- the lists of the places below p are walked: none of these places has two links to the same place, and no mark is above p
pub record Walked (F T : List ℕ) (k p : ℕ) (M : List ℕ) : Type 0 where
  pub once : (o : ℕ) → o < p → OnceFrom F T k o
  pub low : (q : ℕ) → at M q ≤ p
  pub long : length M ≡ 256

-- what a walk along the list of p answers, and the marks that it leaves
pub record PlaceOnce (F T : List ℕ) (k p : ℕ) (M : List ℕ) (r : Bool) : Type 0 where
  pub kept : r ≡ true → OnceFrom F T k p
  pub all : OnceFrom F T k p → r ≡ true
  pub low : (q : ℕ) → at M q ≤ p + 1
  pub long : length M ≡ 256

module _ (F T : List ℕ) (k : ℕ) where
  pub walked_first : (n : ℕ) → n ≡ 256 → Walked F T k 0 (replicate n 0)
  walked_first n e = record { once = λ o h. absurd (omega arith); low = λ q. omega (arith, zeros n q); long = length-replicate n 0 ∙ e }

  pub walked_next : (p : ℕ) (M M' : List ℕ) (r : Bool) → Walked F T k p M → PlaceOnce F T k p M' r → r ≡ true → Walked F T k (p + 1) M'
  walked_next p M M' r W O t = record { once = below_more (OnceFrom F T k) p W.once (O.kept t); low = O.low; long = O.long }

  -- with every link from a place below n, the places' links together are all links
  pub walked_all : (n : ℕ) (M : List ℕ) → Walked F T k n M → ((j : ℕ) → j < k → at F j < n) → Once F T k
  walked_all n M W on = record { twice = λ i j h g a b. (W.once (at F i) (on i (omega arith))).twice i j h g refl (sym a) b }

  -- and with no two links the same, none of a place's are
  pub once_from : (p : ℕ) → Once F T k → OnceFrom F T k p
  once_from p O = record { twice = λ i j h g a b e. O.twice i j h g (a ∙ sym b) e }
