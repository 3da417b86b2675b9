-- The field names that a value lists (RFC 9111, 5.2.2.4 and 5.2.2.7): its parts between commas, without spaces and
-- tabs around them (RFC 9110, 5.6.3).
use Rattle.std.specs.Prelude.{ℕ, Bool, ◌||◌, ◌==◌, if◌then◌else◌, List, [], ◌∷◌, ◌++◌, map}

abbrev pub is_blank : ℕ → Bool
is_blank b = b == 32 || b == 9

abbrev pub trim_front : List ℕ → List ℕ
trim_front [] = []
trim_front (b ∷ bytes) = if is_blank b then trim_front bytes else b ∷ bytes

abbrev pub onto_blank : ℕ → List ℕ → List ℕ
onto_blank b [] = if is_blank b then [] else b ∷ []
onto_blank b (c ∷ bytes) = b ∷ c ∷ bytes

abbrev pub trim_end : List ℕ → List ℕ
trim_end [] = []
trim_end (b ∷ bytes) = onto_blank b (trim_end bytes)

-- without spaces and tabs at both ends
abbrev pub trimmed : List ℕ → List ℕ
trimmed bytes = trim_end (trim_front bytes)

-- more bytes in front of the first part
abbrev pub onto_front : List ℕ → List (List ℕ) → List (List ℕ)
onto_front front [] = front ∷ []
onto_front front (part ∷ parts) = (front ++ part) ∷ parts

-- the parts between commas, at least one
abbrev pub parts : List ℕ → List (List ℕ)
parts [] = [] ∷ []
parts (b ∷ bytes) = if b == 44 then [] ∷ parts bytes else onto_front (b ∷ []) (parts bytes)

-- the names that a list without quotes has
abbrev pub listed : List ℕ → List (List ℕ)
listed bytes = map trimmed (parts bytes)
