-- The parts of a list, with more in front of the first.
use Rattle.std.proofs.Common.{◌≡◌, ℕ, List, [], ◌∷◌, ◌++◌, refl, Bool, true, false, cond, ◌==◌}
use Rattle.std.specs.List.{onto_first}
use Rattle.std.specs.Prelude.{Option}
use Rattle.rules_fields.specs.Fields.{parts}

abbrev pub onto_front : List ℕ → List (List ℕ) → List (List ℕ)
onto_front front [] = front ∷ []
onto_front front (part ∷ parts) = (front ++ part) ∷ parts

onto_none : (b : ℕ) (ps : List (List ℕ)) → onto_front [] (onto_first b ps) ≡ onto_first b ps
onto_none b [] = refl
onto_none b (p ∷ ps) = refl

-- there is a first part, so nothing in front of it changes nothing
pub onto_nothing : (text : List ℕ) → onto_front [] (parts text) ≡ parts text
onto_nothing [] = refl
onto_nothing (b ∷ text) = go (b == 44)
  where
    go : (t : Bool) → onto_front [] (cond t ([] ∷ parts text) (onto_first b (parts text))) ≡ cond t ([] ∷ parts text) (onto_first b (parts text))
    go true = refl
    go false = onto_none b (parts text)

abbrev pub behind : List ℕ → List ℕ × Option (List ℕ) → List ℕ × Option (List ℕ)
behind front c = (front ++ c.0, c.1)
