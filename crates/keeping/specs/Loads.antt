-- Load of rows put in and taken out: loads add up, and rows taken out add none.
use Rattle.std.specs.Prelude.{◌≡◌, Bool, ℕ, ◌+◌, ◌≤◌}
use Rattle.std.proofs.Math.Path.{refl}
use Rattle.std.proofs.Math.Bool.{true, false}
use mathlib.Core.List.{List, [], ◌∷◌}
use native.Mathlib.Omega.{arith}
use Rattle.rules.specs.declared.Row.{Row}
use Rattle.rules.specs.Rows.{row_key, lessb, covers, bit, load, choose, keep, put_before, insert_row, insert_all}

module _ (p t : ℕ) where
  abbrev part : Row → ℕ
  part r = bit (covers r.place r.entry r.exit p t)

  load_put : (b : Bool) (r x : Row) (l m : List Row) → load m p t ≡ part r + load l p t → load (put_before b r x l m) p t ≡ part r + load (x ∷ l) p t
  unfolding load
  load_put true r x l m h = refl
  load_put false r x l m h = omega arith

  pub load_insert : (r : Row) (l : List Row) → load (insert_row r l) p t ≡ part r + load l p t
  unfolding load
  load_insert r [] = refl
  load_insert r (x ∷ l) = load_put (lessb (row_key r) (row_key x)) r x l (insert_row r l) (load_insert r l)

  pub load_all : (new rows : List Row) → load (insert_all new rows) p t ≡ load new p t + load rows p t
  unfolding load
  load_all [] rows = omega arith
  load_all (r ∷ new) rows = omega (arith, load_all new (insert_row r rows), load_insert r rows)

  load_choose : (b : Bool) (x : Row) (l m : List Row) → load l p t ≤ load m p t → load (choose b x l) p t ≤ load (x ∷ m) p t
  unfolding load
  load_choose true x l m h = omega arith
  load_choose false x l m h = omega arith

  pub load_keep : (f : Row → Bool) (rows : List Row) → load (keep f rows) p t ≤ load rows p t
  load_keep f [] = omega arith
  load_keep f (x ∷ rows) = load_choose (f x) x (keep f rows) rows (load_keep f rows)
