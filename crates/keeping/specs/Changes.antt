-- Rows put in and rows taken out: how many there are after, which, and that key order is kept. A row is put before the first whose key is
-- above its own, so that nothing else moves; what a test keeps stays in its order.
use Rattle.std.specs.Prelude.{◌≡◌, refl, ◌⊎◌, Bool, true, false, not, ℕ, suc, ◌+◌, ◌<◌, ◌≤◌, length}
use Rattle.std.proofs.Common.{sym, ap, ◌∙◌, inl, inr, ⊎_elim, arith}
use mathlib.Core.List.Memᴰ
use mathlib.Core.List.{List, [], ◌∷◌, Memᴰ}
use Rattle.laws.specs.Lists.{mem_index}
use Rattle.rules.specs.declared.Row.{Row}
use Rattle.rules.specs.Rows.{Key, row_key, no_row, row_at, Less, lessb, Rising, choose, keep, put_before, insert_row, insert_all}
use Rattle.keeping.specs.OrderLaws.{Three, three, lessb_less, not_less}
use Rattle.keeping.specs.OrderLaws.Three.{less, same, more as above}
use Rattle.keeping.specs.Chains.{Chain, chain_keep, chain_rising, cons_rising, rising_chain, rising_none}
use Rattle.keeping.specs.Chains.Chain.{none, more}

-- ---- what a test keeps

module _ (f : Row → Bool) where
  keep_here : (x a : Row) (l : List Row) → f x ≡ true → x ≡ a → Memᴰ x (choose (f a) a l)
  keep_here x a l t e = rw (← e, t) (Memᴰ.head refl)

  keep_there : (t : Bool) (x a : Row) (l : List Row) → Memᴰ x l → Memᴰ x (choose t a l)
  keep_there true x a l m = Memᴰ.tail m
  keep_there false x a l m = m

  pub keep_mem : {x : Row} {l : List Row} → f x ≡ true → Memᴰ x l → Memᴰ x (keep f l)
  keep_mem {x} t (Memᴰ.head {x = a} {xs = l} e) = keep_here x a (keep f l) t e
  keep_mem {x} t (Memᴰ.tail {x = a} {xs = l} m) = keep_there (f a) x a (keep f l) (keep_mem t m)

  kept_choose : (x a : Row) (l m : List Row) (t : Bool) → f a ≡ t → (Memᴰ x m → Memᴰ x l × (f x ≡ true)) → Memᴰ x (choose t a m) → Memᴰ x (a ∷ l) × (f x ≡ true)
  kept_choose x a l m true e go h =
      ⊎_elim (λ (p : x ≡ a). (Memᴰ.head p, ap f p ∙ e)) (λ (d : Memᴰ x m). (Memᴰ.tail (go d).0, (go d).1)) (Memᴰ.cases_cons h)
  kept_choose x a l m false e go h = (Memᴰ.tail (go h).0, (go h).1)

  -- a row that is kept stood there, and the test holds of it
  pub mem_keep : (x : Row) (l : List Row) → Memᴰ x (keep f l) → Memᴰ x l × (f x ≡ true)
  mem_keep x [] h = absurd (Memᴰ.not-nil h)
  mem_keep x (a ∷ l) h = kept_choose x a l (keep f l) (f a) refl (mem_keep x l) h

  keep_choose : (t : Bool) (a : Row) (l : List Row) → Chain (row_key a) l → Rising (choose t a l)
  keep_choose true a l c = cons_rising a c
  keep_choose false a l c = chain_rising c

  pub keep_rising : (l : List Row) → Rising l → Rising (keep f l)
  keep_rising [] R = rising_none
  keep_rising (a ∷ l) R = keep_choose (f a) a (keep f l) (chain_keep f (rising_chain a l R))

  both : (t : Bool) (x : Row) (a b : List Row) → length (choose t x a) + length (choose (not t) x b) ≡ suc (length a + length b)
  both true x a b = omega arith
  both false x a b = omega arith

  -- what a test keeps and what it drops are the whole
  pub keep_count : (l : List Row) → length (keep f l) + length (keep (λ x. not (f x)) l) ≡ length l
  keep_count [] = omega arith
  keep_count (x ∷ l) = both (f x) x (keep f l) (keep (λ x. not (f x)) l) ∙ ap suc (keep_count l)

  pub keep_le : (l : List Row) → length (keep f l) ≤ length l
  keep_le l = omega (arith, keep_count l)

-- ---- one row put in

insert_length_put : (t : Bool) (r x : Row) (l m : List Row) → length m ≡ suc (length l) → length (put_before t r x l m) ≡ suc (suc (length l))
insert_length_put true r x l m h = refl
insert_length_put false r x l m h = ap suc h

pub insert_length : (r : Row) (l : List Row) → length (insert_row r l) ≡ suc (length l)
insert_length r [] = refl
insert_length r (x ∷ l) = insert_length_put (lessb (row_key r) (row_key x)) r x l (insert_row r l) (insert_length r l)

mem_put : (t : Bool) (r x y : Row) (l m : List Row) → (Memᴰ y m → (y ≡ r) ⊎ Memᴰ y l)
    → Memᴰ y (put_before t r x l m) → (y ≡ r) ⊎ Memᴰ y (x ∷ l)
mem_put true r x y l m go h = Memᴰ.cases_cons h
mem_put false r x y l m go h =
    ⊎_elim (λ e. inr (Memᴰ.head e)) (λ k. ⊎_elim (λ e. inl e) (λ j. inr (Memᴰ.tail j)) (go k)) (Memᴰ.cases_cons h)

-- what stands there after is the row put in, or stood there before
pub mem_insert : (r y : Row) (l : List Row) → Memᴰ y (insert_row r l) → (y ≡ r) ⊎ Memᴰ y l
mem_insert r y [] h = Memᴰ.cases_cons h
mem_insert r y (x ∷ l) h = mem_put (lessb (row_key r) (row_key x)) r x y l (insert_row r l) (mem_insert r y l) h

new_put : (t : Bool) (r x : Row) (l m : List Row) → Memᴰ r m → Memᴰ r (put_before t r x l m)
new_put true r x l m h = Memᴰ.head refl
new_put false r x l m h = Memᴰ.tail h

pub insert_new : (r : Row) (l : List Row) → Memᴰ r (insert_row r l)
insert_new r [] = Memᴰ.head refl
insert_new r (x ∷ l) = new_put (lessb (row_key r) (row_key x)) r x l (insert_row r l) (insert_new r l)

old_put : (t : Bool) (r x y : Row) (l m : List Row) → (Memᴰ y l → Memᴰ y m) → Memᴰ y (x ∷ l) → Memᴰ y (put_before t r x l m)
old_put true r x y l m go h = Memᴰ.tail h
old_put false r x y l m go h = ⊎_elim (λ e. Memᴰ.head e) (λ k. Memᴰ.tail (go k)) (Memᴰ.cases_cons h)

pub insert_old : (r y : Row) (l : List Row) → Memᴰ y l → Memᴰ y (insert_row r l)
insert_old r y [] h = Memᴰ.tail h
insert_old r y (x ∷ l) h = old_put (lessb (row_key r) (row_key x)) r x y l (insert_row r l) (insert_old r y l) h

-- no row of a list has a row's key
abbrev pub Fresh : Row → List Row → Type 0
Fresh r l = (x : Row) → Memᴰ x l → row_key x ≡ row_key r → ⊥

not_before : (r x : Row) → lessb (row_key r) (row_key x) ≡ false → (row_key x ≡ row_key r → ⊥) → Less (row_key x) (row_key r)
not_before r x h n = go (three (row_key r) (row_key x))
  where
    go : Three (row_key r) (row_key x) → Less (row_key x) (row_key r)
    go (less l) = absurd (not_less _ _ h l)
    go (same e) = absurd (n (sym e))
    go (above l) = l

chain_put : (r x : Row) (l m : List Row) {k : Key} → Less k (row_key r) → Less k (row_key x) → Chain (row_key x) l
    → (t : Bool) → lessb (row_key r) (row_key x) ≡ t → (Less (row_key x) (row_key r) → Chain (row_key x) m) → (row_key x ≡ row_key r → ⊥)
    → Chain k (put_before t r x l m)
chain_put r x l m h e c true q go n = more h (more (lessb_less (row_key r) (row_key x) q) c)
chain_put r x l m h e c false q go n = more e (go (not_before r x q n))

pub insert_chain : (r : Row) {k : Key} {l : List Row} → Less k (row_key r) → Chain k l → Fresh r l → Chain k (insert_row r l)
insert_chain r h none f = more h none
insert_chain r h (more {a = x} {l = l} e c) f =
    chain_put r x l (insert_row r l) h e c (lessb (row_key r) (row_key x)) refl
    (λ g. insert_chain r g c (λ y m. f y (Memᴰ.tail m)))
    (f x (Memᴰ.head refl))

rising_put : (r x : Row) (l m : List Row) → Chain (row_key x) l → (t : Bool) → lessb (row_key r) (row_key x) ≡ t
    → (Less (row_key x) (row_key r) → Chain (row_key x) m) → (row_key x ≡ row_key r → ⊥) → Rising (put_before t r x l m)
rising_put r x l m c true q go n = cons_rising r (more (lessb_less (row_key r) (row_key x) q) c)
rising_put r x l m c false q go n = cons_rising x (go (not_before r x q n))

pub insert_rising : (r : Row) (l : List Row) → Rising l → Fresh r l → Rising (insert_row r l)
insert_rising r [] R f = cons_rising r none
insert_rising r (x ∷ l) R f =
    rising_put r x l (insert_row r l) (rising_chain x l R) (lessb (row_key r) (row_key x)) refl
    (λ g. insert_chain r g (rising_chain x l R) (λ y m. f y (Memᴰ.tail m)))
    (f x (Memᴰ.head refl))

-- ---- several rows put in

pub all_length : (new rows : List Row) → length (insert_all new rows) ≡ length new + length rows
all_length [] rows = omega arith
all_length (r ∷ new) rows = omega (arith, all_length new (insert_row r rows), insert_length r rows)

pub mem_all : (new : List Row) (y : Row) (rows : List Row) → Memᴰ y (insert_all new rows) → Memᴰ y new ⊎ Memᴰ y rows
mem_all [] y rows h = inr h
mem_all (r ∷ new) y rows h =
    ⊎_elim (λ k. inl (Memᴰ.tail k)) (λ k. ⊎_elim (λ e. inl (Memᴰ.head e)) (λ j. inr j) (mem_insert r y rows k)) (mem_all new y (insert_row r rows) h)

pub all_old : (new : List Row) (y : Row) (rows : List Row) → Memᴰ y rows → Memᴰ y (insert_all new rows)
all_old [] y rows h = h
all_old (r ∷ new) y rows h = all_old new y (insert_row r rows) (insert_old r y rows h)

pub all_new : (new : List Row) (y : Row) (rows : List Row) → Memᴰ y new → Memᴰ y (insert_all new rows)
all_new [] y rows h = absurd (Memᴰ.not-nil h)
all_new (r ∷ new) y rows h =
    ⊎_elim (λ e. all_old new y (insert_row r rows) (rw e (insert_new r rows))) (λ k. all_new new y (insert_row r rows) k) (Memᴰ.cases_cons h)

-- rows whose keys are all different, and none of which is in a list
pub record AllNew (new rows : List Row) : Type 0 where
  pub fresh : (x : Row) → Memᴰ x new → Fresh x rows
  pub apart : (i j : ℕ) → i < j → j < length new → row_key (row_at new i) ≡ row_key (row_at new j) → ⊥

pub all_rising : (new rows : List Row) → Rising rows → AllNew new rows → Rising (insert_all new rows)
all_rising [] rows R n = R
all_rising (r ∷ new) rows R n = all_rising new (insert_row r rows) (insert_rising r rows R (n.fresh r (Memᴰ.head refl))) rest
  where
    rest : AllNew new (insert_row r rows)
    rest = record {
      fresh = λ x m y d e. ⊎_elim
          (λ (p : y ≡ r). let i = mem_index no_row m in n.apart 0 (suc i.0) (omega arith) (omega (arith, i.1)) (ap row_key (sym p) ∙ e ∙ sym (ap row_key i.2)))
          (λ (q : Memᴰ y rows). n.fresh x (Memᴰ.tail m) y q e)
          (mem_insert r y rows d);
      apart = λ i j h k e. n.apart (suc i) (suc j) (omega arith) (omega arith) e;
    }
