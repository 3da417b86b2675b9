-- Lists with one more element, and Via (RFC 9110, 7.6.3).
use Rattle.std.specs.Prelude.{ℕ, List, [], ◌∷◌, ◌++◌, codes, decimal}
use Rattle.std.specs.List.{flat_map}
use Rattle.rules_fields.specs.Fields.{Field, all, without}

-- each value with a comma and a blank after it
abbrev pub listed : List (List ℕ) → List ℕ
listed values = flat_map (λ v. v ++ codes ", ") values

-- an element of Via
abbrev pub own_via : ℕ → List ℕ → List ℕ
own_via minor name = codes "1." ++ decimal minor ++ 32 ∷ name

-- those that are there, and one more
abbrev pub via_value : ℕ → List ℕ → List Field → List ℕ
via_value minor name lines = listed (all (codes "via") lines) ++ own_via minor name

abbrev pub with_via : ℕ → List ℕ → List Field → List Field
with_via minor name lines = without (codes "via" ∷ []) lines ++ (codes "Via", via_value minor name lines) ∷ []
