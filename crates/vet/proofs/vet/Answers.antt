-- `vet::vet` meets its contract: the map's test decides first, then the book's, which also finds the windows.
use Rattle.std.specs.Prelude.{ℕ, ◌≡◌, Result}
use Rattle.std.proofs.Common.{rules, subst}
use Rattle.rules.specs.declared.Refusal.{Refusal}
use Rattle.rules.specs.Gate.{Papers}
use Rattle.vet.specs.Vetted.{Vetted, vet_book}
use Rattle.vet.proofs.vet.Goals as goal

-- what vetting says of the answer found it says of the answer returned, where the two are equal
handed_on : {g : Papers} {S : ℕ → Type 0} {v r : Result ℕ Refusal} → Vetted g S v → v ≡ r → Vetted g S r
handed_on {g} {S} d e = subst (λ x. Vetted g S x) e d

pub returns : goal.returns
returns c =
    handed_on
    (vet_book c.map_fits.ensures _ _ _ _ _ _ _ _ c.if-not-map_fits.false c.book_fits.ensures)
    (search rules)
