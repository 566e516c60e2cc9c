-- Rows in key order, link by link: a chain is a list whose keys rise from above a key on. Rising by index and a chain from the first row on
-- are the same, because the order is transitive; and chains can be cut, joined and thinned out.
use Rattle.std.specs.Prelude.{◌≡◌, refl, ◌⊎◌, Bool, true, false, ℕ, zero, suc, ◌<◌, ◌≤◌, length, take}
use Rattle.std.proofs.Common.{sym, ap, ◌∙◌, inl, inr, arith}
use mathlib.Core.List.{List, [], ◌∷◌, ◌++◌, Memᴰ}
use Rattle.laws.specs.Order.{lt_or_ge}
use Rattle.laws.specs.Lists.{mem_index, index_mem}
use Rattle.rules.specs.declared.Row.{Row}
use Rattle.rules.specs.Rows.{Key, row_key, no_row, row_at, Less, lessb, Rising, choose, keep}
use Rattle.rules.specs.Page.{after, last_key}
use Rattle.keeping.specs.OrderLaws.{less_trans, less_irrefl, lessb_less}

pub data Chain : Key → List Row → Type 0 where
  none : {k : Key} → Chain k []
  more : {k : Key} {a : Row} {l : List Row} → Less k (row_key a) → Chain (row_key a) l → Chain k (a ∷ l)

pub chain_from : {j k : Key} {l : List Row} → Less j k → Chain k l → Chain j l
chain_from h none = none
chain_from h (more e c) = more (less_trans h e) c

-- each row of a chain is above the key that it begins from
pub chain_below : {k : Key} {x : Row} {l : List Row} → Chain k l → Memᴰ x l → Less k (row_key x)
chain_below {k} (more e c) (Memᴰ.head p) = rw p e
chain_below (more e c) (Memᴰ.tail m) = less_trans e (chain_below c m)
chain_below (none {k = k}) m = elim m [ ]

pub chain_take : {k : Key} {l : List Row} (n : ℕ) → Chain k l → Chain k (take n l)
chain_take zero c = none
chain_take (suc n) none = none
chain_take (suc n) (more e c) = more e (chain_take n c)

pub chain_append : {k : Key} {a b : List Row} → Chain k a → Chain (last_key k a) b → Chain k (a ++ b)
chain_append none d = d
chain_append (more e c) d = more e (chain_append c d)

pub chain_rest : {k : Key} (a : List Row) {b : List Row} → Chain k (a ++ b) → Chain (last_key k a) b
chain_rest [] c = c
chain_rest (x ∷ a) (more e c) = chain_rest a c

chain_choose : (t : Bool) (a : Row) {k : Key} {l : List Row} → Less k (row_key a) → Chain (row_key a) l → Chain k (choose t a l)
chain_choose true a e c = more e c
chain_choose false a e c = chain_from e c

pub chain_keep : (f : Row → Bool) {k : Key} {l : List Row} → Chain k l → Chain k (keep f l)
chain_keep f none = none
chain_keep f (more {a = a} e c) = chain_choose (f a) a e (chain_keep f c)

-- ---- between rising by index and the chain

pub rising_none : Rising []
rising_none = record { rise = λ i j h k. absurd (omega arith) }

pub rising_tail : {a : Row} {l : List Row} → Rising (a ∷ l) → Rising l
rising_tail R = record { rise = λ i j h k. R.rise (suc i) (suc j) (omega arith) (omega arith) }

pub rising_chain : (a : Row) (l : List Row) → Rising (a ∷ l) → Chain (row_key a) l
rising_chain a [] R = none
rising_chain a (b ∷ l) R = more (R.rise 0 1 (omega arith) (omega arith)) (rising_chain b l (rising_tail R))

pub chain_rising : {k : Key} {l : List Row} → Chain k l → Rising l
chain_rising c = record { rise = λ i j h k. rise c i j h k }
  where
    rise : {k : Key} {l : List Row} → Chain k l → (i j : ℕ) → i < j → j < length l → Less (row_key (row_at l i)) (row_key (row_at l j))
    rise none i j h k = absurd (omega arith)
    rise (more e c) i zero h k = absurd (omega arith)
    rise (more {l = l} e c) zero (suc j) h k = chain_below c (index_mem no_row l j (omega arith))
    rise (more e c) (suc i) (suc j) h k = rise c i j (omega arith) (omega arith)

pub cons_rising : (a : Row) {l : List Row} → Chain (row_key a) l → Rising (a ∷ l)
cons_rising a {l} c = record { rise = rise }
  where
    rise : (i j : ℕ) → i < j → j < length (a ∷ l) → Less (row_key (row_at (a ∷ l) i)) (row_key (row_at (a ∷ l) j))
    rise i zero h k = absurd (omega arith)
    rise zero (suc j) h k = chain_below c (index_mem no_row l j (omega arith))
    rise (suc i) (suc j) h k = (chain_rising c).rise i j (omega arith) (omega arith)

-- the rows after a key are a chain from it on
after_choose : (k : Key) (a : Row) (l : List Row) → Chain (row_key a) l → (t : Bool) → lessb k (row_key a) ≡ t → Chain k (after k l)
    → Chain k (choose t a (after k l))
after_choose k a l d true e c = more (lessb_less k (row_key a) e) (chain_keep (λ r. lessb k (row_key r)) d)
after_choose k a l d false e c = c

pub after_chain : (k : Key) (l : List Row) → Rising l → Chain k (after k l)
after_chain k [] R = none
after_chain k (a ∷ l) R = after_choose k a l (rising_chain a l R) (lessb k (row_key a)) refl (after_chain k l (rising_tail R))

-- ---- no key stands twice

pub keys_once : (l : List Row) → Rising l → (i j : ℕ) → i < length l → j < length l → row_key (row_at l i) ≡ row_key (row_at l j) → i ≡ j
keys_once l R i j p q e = go (lt_or_ge i j) (lt_or_ge j i)
  where
    go : (i < j) ⊎ (j ≤ i) → (j < i) ⊎ (i ≤ j) → i ≡ j
    go (inl h) s = absurd (less_irrefl (rw e at (R.rise i j h q)))
    go (inr h) (inl m) = absurd (less_irrefl (rw e at (R.rise j i m p)))
    go (inr h) (inr m) = omega arith

-- rows of one key are one row
pub same_row : (l : List Row) → Rising l → {x y : Row} → Memᴰ x l → Memᴰ y l → row_key x ≡ row_key y → x ≡ y
same_row l R m n e =
    let i = mem_index no_row m in
    let j = mem_index no_row n in
    let s : i.0 ≡ j.0 = keys_once l R i.0 j.0 i.1 j.1 (ap row_key i.2 ∙ e ∙ sym (ap row_key j.2)) in
    sym i.2 ∙ ap (row_at l) s ∙ j.2
