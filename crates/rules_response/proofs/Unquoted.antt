-- The parts of a list of tags, with more in front of the first.
use Rattle.std.proofs.Common.{◌≡◌, ℕ, List, [], ◌∷◌, ◌++◌, refl, Bool, true, false, not, ◌&&◌, cond, ◌==◌}
use Rattle.std.specs.List.{onto_first}
use Rattle.std.specs.Prelude.{Option}
use Rattle.rules_response.specs.Tagged.{unquoted_parts, after_byte}

abbrev pub onto_front : List ℕ → List (List ℕ) → List (List ℕ)
onto_front front [] = front ∷ []
onto_front front (part ∷ parts) = (front ++ part) ∷ parts

onto_none : (b : ℕ) (ps : List (List ℕ)) → onto_front [] (onto_first b ps) ≡ onto_first b ps
onto_none b [] = refl
onto_none b (p ∷ ps) = refl

-- there is a first part, so nothing in front of it changes nothing
pub onto_nothing : (quoted : Bool) (text : List ℕ) → onto_front [] (unquoted_parts quoted text) ≡ unquoted_parts quoted text
onto_nothing quoted [] = refl
onto_nothing quoted (b ∷ text) = go (b == 44 && not quoted)
  where
    go : (t : Bool) → onto_front [] (cond t ([] ∷ unquoted_parts false text) (onto_first b (unquoted_parts (after_byte quoted b) text))) ≡ cond t ([] ∷ unquoted_parts false text) (onto_first b (unquoted_parts (after_byte quoted b) text))
    go true = refl
    go false = onto_none b (unquoted_parts (after_byte quoted b) text)

abbrev pub behind : List ℕ → List ℕ × Option (List ℕ) → List ℕ × Option (List ℕ)
behind front c = (front ++ c.0, c.1)
