-- How many rows two tests keep: where one test implies the other it keeps no more, fewer where a row passes only the other; and what rows put
-- in or taken out change of the number that a test keeps.
use Rattle.std.specs.Prelude.{suc, ◌+◌, ◌≤◌, ◌<◌, ◌≡◌, refl, Bool, true, false, length}
use Rattle.std.proofs.Common.{sym, ap, ◌∙◌, ⊎_elim, arith}
use mathlib.Core.List.Memᴰ
use mathlib.Core.List.{List, [], ◌∷◌, Memᴰ}
use Rattle.laws.specs.Tests.{not_both}
use Rattle.rules.specs.declared.Row.{Row}
use Rattle.rules.specs.Rows.{row_key, lessb, choose, keep, put_before, insert_row, insert_all}

module _ (f g : Row → Bool) (imp : (x : Row) → f x ≡ true → g x ≡ true) where
  step : (s t : Bool) → (s ≡ true → t ≡ true) → (a : Row) (l m : List Row) → length l ≤ length m → length (choose s a l) ≤ length (choose t a m)
  step true true i a l m h = omega arith
  step true false i a l m h = absurd (not_both (i refl) refl)
  step false true i a l m h = omega arith
  step false false i a l m h = h

  pub keep_fewer : (l : List Row) → length (keep f l) ≤ length (keep g l)
  keep_fewer [] = omega arith
  keep_fewer (a ∷ l) = step (f a) (g a) (imp a) a (keep f l) (keep g l) (keep_fewer l)

  drops : (s t : Bool) → s ≡ false → t ≡ true → (a : Row) (l m : List Row) → length l ≤ length m → length (choose s a l) < length (choose t a m)
  drops true t p q a l m h = absurd (not_both refl p)
  drops false true p q a l m h = omega arith
  drops false false p q a l m h = absurd (not_both q refl)

  less : (s t : Bool) → (s ≡ true → t ≡ true) → (a : Row) (l m : List Row) → length l < length m → length (choose s a l) < length (choose t a m)
  less true true i a l m h = omega arith
  less true false i a l m h = absurd (not_both (i refl) refl)
  less false true i a l m h = omega arith
  less false false i a l m h = h

  pub keep_less : (x : Row) → f x ≡ false → g x ≡ true → (l : List Row) → Memᴰ x l → length (keep f l) < length (keep g l)
  keep_less x p q [] m = absurd (Memᴰ.not-nil m)
  keep_less x p q (a ∷ l) m =
      ⊎_elim (λ (e : x ≡ a). drops (f a) (g a) (ap f (sym e) ∙ p) (ap g (sym e) ∙ q) a (keep f l) (keep g l) (keep_fewer l))
      (λ (d : Memᴰ x l). less (f a) (g a) (imp a) a (keep f l) (keep g l) (keep_less x p q l d))
      (Memᴰ.cases_cons m)

module _ (g : Row → Bool) where
  both : (t : Bool) (a : Row) (l m : List Row) → length l ≤ length m → length (choose t a l) ≤ length (choose t a m)
  both true a l m h = omega arith
  both false a l m h = h

  more : (t : Bool) (a : Row) (l : List Row) → length l ≤ length (choose t a l)
  more true a l = omega arith
  more false a l = omega arith

  most : (t : Bool) (a : Row) (l : List Row) → length (choose t a l) ≤ suc (length l)
  most true a l = omega arith
  most false a l = omega arith

  one : (t : Bool) (a : Row) (l m : List Row) → length l ≤ suc (length m) → length (choose t a l) ≤ suc (length (choose t a m))
  one true a l m h = omega arith
  one false a l m h = h

  -- rows taken out
  out : (f : Row → Bool) (t : Bool) (a : Row) (l : List Row) → length (keep g (keep f l)) ≤ length (keep g l)
      → length (keep g (choose t a (keep f l))) ≤ length (choose (g a) a (keep g l))
  out f true a l h = both (g a) a (keep g (keep f l)) (keep g l) h
  out f false a l h = omega (arith, more (g a) a (keep g l))

  pub keep_keep : (f : Row → Bool) (l : List Row) → length (keep g (keep f l)) ≤ length (keep g l)
  keep_keep f [] = omega arith
  keep_keep f (a ∷ l) = out f (f a) a l (keep_keep f l)

  -- rows put in
  put : (t : Bool) (r x : Row) (l m : List Row) → length (keep g m) ≤ suc (length (keep g l)) → length (keep g (put_before t r x l m)) ≤ suc (length (keep g (x ∷ l)))
  put true r x l m h = most (g r) r (keep g (x ∷ l))
  put false r x l m h = one (g x) x (keep g m) (keep g l) h

  keep_insert : (r : Row) (l : List Row) → length (keep g (insert_row r l)) ≤ suc (length (keep g l))
  keep_insert r [] = most (g r) r []
  keep_insert r (x ∷ l) = put (lessb (row_key r) (row_key x)) r x l (insert_row r l) (keep_insert r l)

  pub keep_all : (new rows : List Row) → length (keep g (insert_all new rows)) ≤ length new + length (keep g rows)
  keep_all [] rows = omega arith
  keep_all (r ∷ new) rows = omega (arith, keep_all new (insert_row r rows), keep_insert r rows)
