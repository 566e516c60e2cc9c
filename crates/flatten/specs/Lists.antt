-- Arrays as lists: a run of a list as a table of its elements.
use Rattle.std.specs.Prelude.{ℕ, ◌≤◌, ◌<◌, ◌≡◌, List, map, length, get_or, take}
use Rattle.std.proofs.Common.{sym, ◌∙◌, arith, ext_get_or, get_or-take, length-take-le}
use Rattle.std.proofs.lemmas.List.{length-map}
use Rattle.laws.specs.Lists.{tabulate, length_tabulate, get_or_tabulate}

-- a field that is an array of structs: what owning it tells is of the mapped list
pub unmapped : (X Y : Type 0) (f : X → Y) (l : List X) (n : ℕ) → length (map f l) ≡ n → length l ≡ n
unmapped X Y f l n e = sym (length-map l f) ∙ e

module _ {A : Type 0} where
  -- the first n of a list are a table of them
  pub table_take : (n : ℕ) (f : ℕ → A) (l : List A) (d : A) → n ≤ length l → ((i : ℕ) → i < n → f i ≡ get_or l i d) → tabulate n f ≡ take n l
  table_take n f l d h e =
      let a = length_tabulate n f in
      let b = length-take-le n l h in
      ext_get_or d (tabulate n f) (take n l) (a ∙ sym b)
      (λ i k. let g : i < n = omega arith in get_or_tabulate n f i d g ∙ e i g ∙ sym (get_or-take n l i d g))
