-- Rows filed by the place and the second that they leave: each slot has a chain of rows, every link to an earlier row, so that a walk along it ends.
-- Numbers are given to rows along the chains by a walk in depth. Nothing is asked of the numbers: they are tested.
use Rattle.std.specs.Prelude.{ℕ, zero, suc, ◌+◌, ◌-◌, ◌*◌, ◌%◌, ◌≤◌, ◌<◌, ◌≡◌, Option, MatchOption, List, [], ◌∷◌, length, set, replicate}
use Rattle.std.proofs.Common.{sym, ap, subst, ◌∙◌, ⊎_elim, arith, length-set, get_or-set_same, get_or-set_other}
use Rattle.std.proofs.lemmas.List.{length-replicate}
use Rattle.laws.specs.Order.{lt_or_ge, eq_or_ne}
use Rattle.laws.specs.Lists.{at, zeros}
use Rattle.rules.specs.Book.{Unbarred}
use Rattle.flat.specs.Flat.{place_of, exit_of, next_value, rows_in}
use Rattle.bookfit.specs.Each.{below_next}
use Rattle.bookfit.specs.Ring.{Follows, Ringed, Listed, unringed_unbarred, falling_unringed}

-- what holds of all that is stored, and of x at i, holds once x is stored there
pub set_all : (P : ℕ → ℕ → Type 0) (l : List ℕ) (i x : ℕ) → ((k : ℕ) → P k (at l k)) → P i x → (k : ℕ) → P k (at (set l i x) k)
set_all P [] i x f p k = f k
set_all P (y ∷ l) zero x f p zero = p
set_all P (y ∷ l) zero x f p (suc k) = f (suc k)
set_all P (y ∷ l) (suc i) x f p zero = f zero
set_all P (y ∷ l) (suc i) x f p (suc k) = set_all (λ k. P (suc k)) l i x (λ k. f (suc k)) p k

-- ---- chains

-- the slot of the crossings that leave a place at a second
unfoldable pub leave_slot_value : ℕ → ℕ → ℕ
leave_slot_value place second = (second * 11 + place * 301) % 1024

-- the heads of the slots' chains, and each row's link, all with one added
pub record Chains (H N : List ℕ) : Type 0 where
  pub heads : (h : ℕ) → at H h ≤ 1024
  pub links : (j : ℕ) → at N j ≤ j

-- row i is on the chain that begins with row c - 1
pub data OnChain (N : List ℕ) (i : ℕ) : ℕ → Type 0 where
  here : {c : ℕ} → c ≡ i + 1 → OnChain N i c
  later : {c : ℕ} (j : ℕ) → c ≡ j + 1 → OnChain N i (at N j) → OnChain N i c

pub chain_ended : {N : List ℕ} {i : ℕ} (c : ℕ) → c ≡ 0 → OnChain N i c → ⊥
chain_ended c z (here e) = omega arith
chain_ended c z (later j e o) = omega arith

-- a row before i on a chain stays there when the link of i is set
chain_kept : {N : List ℕ} {k : ℕ} → ((j : ℕ) → at N j ≤ j) → (i x : ℕ) {c : ℕ} → c ≤ i → OnChain N k c → OnChain (set N i x) k c
chain_kept f i x h (here e) = here e
chain_kept {N} {k} f i x h (later j e o) =
    later j e (subst (OnChain (set N i x) k) (sym (get_or-set_other N i j x 0 (λ z. omega arith))) (chain_kept f i x (omega (arith, f j)) o))

-- ---- a walk along the chain from c: the rows of P are all from r on

abbrev pub Ahead : (N : List ℕ) (P : ℕ → Type 0) (c r : ℕ) → Type 0
Ahead N P c r = (i : ℕ) → OnChain N i c → P i → OnChain N i r

-- r is a row before which none of P is on the chain from c, none where none is on it at all
abbrev pub NextOn : (N : List ℕ) (P : ℕ → Type 0) (c : ℕ) → Option ℕ → Type 0
NextOn N P c r = MatchOption r ((i : ℕ) → OnChain N i c → P i → ⊥) (λ j. (j < c) × Ahead N P c (j + 1))

pub ahead_next : (N : List ℕ) (P : ℕ → Type 0) (c r : ℕ) → Ahead N P c r → 0 < r → (P (r - 1) → ⊥) → Ahead N P c (at N (r - 1))
ahead_next N P c r A h f i o p = by r h f (A i o p)
  where
    by : (r : ℕ) → 0 < r → (P (r - 1) → ⊥) → OnChain N i r → OnChain N i (at N (r - 1))
    by r h f (here e) = let z : i ≡ r - 1 = omega arith in absurd (f (subst P z p))
    by r h f (later j e o) = let z : j ≡ r - 1 = omega arith in subst (λ (x : ℕ). OnChain N i (at N x)) z o

-- where the rows of P from c on that are more than Q's are from j + 1 on, and j is none of Q
pub ahead_after : (N : List ℕ) (P Q : ℕ → Type 0) (c r j : ℕ) → Ahead N Q c r → ((i : ℕ) → Q i → P i) → Ahead N P r (j + 1) → (Q j → ⊥) → Ahead N Q c (at N j)
ahead_after N P Q c r j A f B g i o q = by (B i (A i o q) (f i q))
  where
    by : OnChain N i (j + 1) → OnChain N i (at N j)
    by (here e) = let z : i ≡ j = omega arith in absurd (g (subst Q z q))
    by (later k e o) = let z : k ≡ j = omega arith in subst (λ (x : ℕ). OnChain N i (at N x)) z o

-- ---- the first c of the m listed rows L are filed, each on the chain of its slot; the heads stand before the rows that are still to come

pub record Filed (K X L : List ℕ) (m c : ℕ) (H N : List ℕ) : Type 0 where
  pub chains : Chains H N
  pub before : (h j : ℕ) → c ≤ j → j < m → at H h ≤ at L j
  pub filed : (j : ℕ) → j < c → OnChain N (at L j) (at H (leave_slot_value (place_of (at K (at L j))) (exit_of (at X (at L j)))))
  pub len_head : length H ≡ 1024
  pub len_chain : length N ≡ 1024

pub filed_start : (K X L : List ℕ) (m n : ℕ) → n ≡ 1024 → Filed K X L m 0 (replicate n 0) (replicate n 0)
filed_start K X L m n e = record {
  chains = record { heads = λ h. omega (arith, zeros n h); links = λ j. omega (arith, zeros n j) };
  before = λ h j _ _. omega (arith, zeros n h);
  filed = λ j h. absurd (omega arith);
  len_head = length-replicate n 0 ∙ e;
  len_chain = length-replicate n 0 ∙ e;
}

module _ (K X : List ℕ) {n m : ℕ} {L : List ℕ} (A : Listed (Ringed K X n) K X n L m) where
  pub filed_next : (c : ℕ) (H N : List ℕ) → n ≤ 1024 → Filed K X L m c H N → c < m → (i h : ℕ) → i ≡ at L c → h ≡ leave_slot_value (place_of (at K i)) (exit_of (at X i)) → h < 1024
      → Filed K X L m (c + 1) (set H h (i + 1)) (set N i (at H h))
  filed_next c H N top F lt i h e s b = record {
    chains = record {
      heads = set_all (λ _ v. v ≤ 1024) H h (i + 1) F.chains.heads (omega (arith, row));
      links = set_all (λ j v. v ≤ j) N i (at H h) F.chains.links (omega (arith, F.before h c (omega arith) lt));
    };
    before = λ g j k l. set_all (λ _ v. v ≤ at L j) H h (i + 1) (λ g. F.before g j (omega arith) l) (omega (arith, A.rises c j (omega arith) l)) g;
    filed = below_next (λ j. OnChain N' (at L j) (at H' (slot (at L j)))) c old new;
    len_head = length-set H h (i + 1) ∙ F.len_head;
    len_chain = length-set N i (at H h) ∙ F.len_chain;
  }
    where
      H' : List ℕ
      H' = set H h (i + 1)

      N' : List ℕ
      N' = set N i (at H h)

      slot : ℕ → ℕ
      slot i = leave_slot_value (place_of (at K i)) (exit_of (at X i))

      row : i < 1024
      row = omega (arith, A.within c lt)

      front : at H' h ≡ i + 1
      front = get_or-set_same H h (i + 1) 0 (omega (arith, F.len_head))

      old : (j : ℕ) → j < c → OnChain N' (at L j) (at H' (slot (at L j)))
      old j k =
          let g = slot (at L j) in
          let o = chain_kept F.chains.links i (at H h) (omega (arith, F.before g c (omega arith) lt)) (F.filed j k) in
          ⊎_elim
          (λ (q : g ≡ h). later i (ap (at H') q ∙ front) (subst (OnChain N' (at L j)) (ap (at H) q ∙ sym (get_or-set_same N i (at H h) 0 (omega (arith, row, F.len_chain)))) o))
          (λ (q : g ≡ h → ⊥). subst (OnChain N' (at L j)) (sym (get_or-set_other H h g (i + 1) 0 q)) o)
          (eq_or_ne g h)

      new : OnChain N' (at L c) (at H' (slot (at L c)))
      new = subst (λ (x : ℕ). OnChain N' x (at H' (slot x))) e (here (ap (at H') (sym s) ∙ front))

-- ---- the pile of rows that are being numbered, each with its spot on the chain of its next place; all that is known is that they are in range

pub record Pile (R W S : List ℕ) : Type 0 where
  pub rows : (k : ℕ) → at W k < 1024
  pub spots : (k : ℕ) → at S k ≤ 1024
  pub len_rank : length R ≡ 1024
  pub len_work : length W ≡ 1024
  pub len_spot : length S ≡ 1024

pub pile_start : (R : List ℕ) (n : ℕ) → n ≡ 1024 → length R ≡ 1024 → Pile R (replicate n 0) (replicate n 0)
pile_start R n e l = record {
  rows = λ k. omega (arith, zeros n k);
  spots = λ k. omega (arith, zeros n k);
  len_rank = l;
  len_work = length-replicate n 0 ∙ e;
  len_spot = length-replicate n 0 ∙ e;
}

module _ (R W S : List ℕ) (P : Pile R W S) where
  pub pile_rank : (i v : ℕ) → Pile (set R i v) W S
  pile_rank i v = record { rows = P.rows; spots = P.spots; len_rank = length-set R i v ∙ P.len_rank; len_work = P.len_work; len_spot = P.len_spot }

  pub pile_spot : (k v : ℕ) → v ≤ 1024 → Pile R W (set S k v)
  pile_spot k v h = record {
    rows = P.rows;
    spots = set_all (λ _ v. v ≤ 1024) S k v P.spots h;
    len_rank = P.len_rank;
    len_work = P.len_work;
    len_spot = length-set S k v ∙ P.len_spot;
  }

  pub pile_row : (k i : ℕ) → i < 1024 → Pile R (set W k i) S
  pile_row k i h = record {
    rows = set_all (λ _ v. v < 1024) W k i P.rows h;
    spots = P.spots;
    len_rank = P.len_rank;
    len_work = length-set W k i ∙ P.len_work;
    len_spot = P.len_spot;
  }

-- ---- the test of the numbers

-- row i is numbered above all that are filed and leave its next place then
abbrev pub AboveAll : (K X H N R : List ℕ) (i : ℕ) → Type 0
AboveAll K X H N R i = (k : ℕ) → OnChain N k (at H (leave_slot_value (next_value (at X i)) (exit_of (at X i)))) → Follows K X i k → at R k < at R i

-- row k follows row i and is not numbered below it
pub record NotBelow (K X R : List ℕ) (i k : ℕ) : Type 0 where
  pub follows : Follows K X i k
  pub not_below : at R i ≤ at R k

pub none_ahead : (K X H N R : List ℕ) (i r : ℕ) → ((k : ℕ) → OnChain N k r → Follows K X i k → ⊥)
    → Ahead N (NotBelow K X R i) (at H (leave_slot_value (next_value (at X i)) (exit_of (at X i)))) r → AboveAll K X H N R i
none_ahead K X H N R i r z A k o f =
    ⊎_elim (λ (h : at R k < at R i). h) (λ (h : at R i ≤ at R k). absurd (z k (A k o (record { follows = f; not_below = h })) f)) (lt_or_ge (at R k) (at R i))

-- each of the first c listed rows that is ringed is above all
pub record Passed (K X : List ℕ) (n : ℕ) (L H N R : List ℕ) (c : ℕ) : Type 0 where
  pub above : (j : ℕ) → j < c → Ringed K X n (at L j) → AboveAll K X H N R (at L j)

module _ (K X : List ℕ) (n : ℕ) (L H N R : List ℕ) where
  pub passed_start : Passed K X n L H N R 0
  passed_start = record { above = λ j h. absurd (omega arith) }

  pub passed_next : (c i : ℕ) → i ≡ at L c → Passed K X n L H N R c → (Ringed K X n i → AboveAll K X H N R i) → Passed K X n L H N R (c + 1)
  passed_next c i e P f = record { above = below_next (λ j. Ringed K X n (at L j) → AboveAll K X H N R (at L j)) c P.above (subst (λ (x : ℕ). Ringed K X n x → AboveAll K X H N R x) e f) }

  pub passed_unbarred : (m : ℕ) → Listed (Ringed K X n) K X n L m → Filed K X L m m H N → Passed K X n L H N R m → Unbarred (rows_in K X n)
  passed_unbarred m A F P = unringed_unbarred K X n (falling_unringed K X n (at R) falls)
    where
      on : (k : ℕ) → Ringed K X n k → OnChain N k (at H (leave_slot_value (place_of (at K k)) (exit_of (at X k))))
      on k G = let b = A.all k G.within G in subst (λ (x : ℕ). OnChain N x (at H (leave_slot_value (place_of (at K x)) (exit_of (at X x))))) b.2 (F.filed b.0 b.1)

      falls : (i k : ℕ) → Ringed K X n i → Follows K X i k → Ringed K X n k → at R k < at R i
      falls i k G f Z =
          let a = A.all i G.within G in
          subst (λ (x : ℕ). Ringed K X n x → AboveAll K X H N R x) a.2 (P.above a.0 a.1) G k (rw (f.from, f.when) at (on k Z)) f
