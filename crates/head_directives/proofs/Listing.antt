-- Trimming from the end, and the first part of a list.
use Rattle.std.proofs.Common.{◌≡◌, ℕ, Bool, true, false, ◌==◌, List, [], ◌∷◌, ◌++◌, refl, ◌∙◌, ap, cond}
use Rattle.head_directives.specs.Listed.{is_blank, onto_blank, trim_end, onto_front, parts}

pub trim_last_blank : (xs : List ℕ) (b : ℕ) → is_blank b ≡ true → trim_end (xs ++ b ∷ []) ≡ trim_end xs
trim_last_blank [] b h = rw h refl
trim_last_blank (x ∷ xs) b h = ap (onto_blank x) (trim_last_blank xs b h)

pub trim_last_other : (xs : List ℕ) (b : ℕ) → is_blank b ≡ false → trim_end (xs ++ b ∷ []) ≡ xs ++ b ∷ []
trim_last_other [] b h = rw h refl
trim_last_other (x ∷ xs) b h = ap (onto_blank x) (trim_last_other xs b h) ∙ keeps xs
  where
    keeps : (xs : List ℕ) → onto_blank x (xs ++ b ∷ []) ≡ x ∷ (xs ++ b ∷ [])
    keeps [] = refl
    keeps (y ∷ ys) = refl

onto_twice : (b : ℕ) (parts : List (List ℕ)) → onto_front [] (onto_front (b ∷ []) parts) ≡ onto_front (b ∷ []) parts
onto_twice b [] = refl
onto_twice b (part ∷ parts) = refl

-- there is a first part, so nothing in front of it changes nothing
pub onto_nothing : (bytes : List ℕ) → onto_front [] (parts bytes) ≡ parts bytes
onto_nothing [] = refl
onto_nothing (b ∷ bytes) = go (b == 44)
  where
    go : (t : Bool) → onto_front [] (cond t ([] ∷ parts bytes) (onto_front (b ∷ []) (parts bytes))) ≡ cond t ([] ∷ parts bytes) (onto_front (b ∷ []) (parts bytes))
    go true = refl
    go false = onto_twice b (parts bytes)
