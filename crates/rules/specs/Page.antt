-- Pages: the rows after a cursor.
use Rattle.std.specs.Prelude.{ℕ, Bool, List, [], ◌∷◌, length, take, ltb}
use Rattle.rules.specs.declared.Row.{Row}
use Rattle.rules.specs.Rows.{Key, row_key, lessb, keep}

-- "the rows with keys above the cursor, least first"
abbrev pub after : Key → List Row → List Row
after k rows = keep (λ r. lessb k (row_key r)) rows

-- "all of them or the first size where there are more"
abbrev pub page_rows : ℕ → Key → List Row → List Row
page_rows size k rows = take size (after k rows)

-- "whether the book has more after them"
abbrev pub page_more : ℕ → Key → List Row → Bool
page_more size k rows = ltb size (length (after k rows))

-- "It is the last row's key, or the cursor given where no row is shown."
abbrev pub last_key : Key → List Row → Key
last_key k [] = k
last_key k (r ∷ rows) = last_key (row_key r) rows
