-- The lines that a client is sent (RFC 9110, 15.4.5; RFC 9111, 4, 5.1; RFC 9211).
use Rattle.std.specs.Prelude.{ℕ, ◌/◌, ◌^◌, min, unsigned_abs, ℤ, List, [], ◌∷◌, ◌++◌, codes}
use Rattle.std.specs.List.{flat_map}
use Rattle.std.specs.Fmt.{decimal}
use Rattle.rules_fields.specs.Fields.{Field, all, without}
use Rattle.rules_fields.specs.Types.{Chosen}
use Rattle.rules_storage.specs.Ages.{age, second}

-- texts with another between each two
abbrev pub joined_by : List ℕ → List (List ℕ) → List ℕ
joined_by between [] = []
joined_by between (t ∷ ts) = t ++ flat_map (λ u. between ++ u) ts

-- an own element of Cache-Status: the name and what is said of it (RFC 9211, 2)
abbrev pub status_element : List (List ℕ) → Chosen → List ℕ
status_element how o = joined_by (codes "; ") (o.name ∷ how)

-- one Cache-Status, with the own element after those that are there
abbrev pub cache_status : List (List ℕ) → List (List ℕ) → Chosen → Field
cache_status values how o = (codes "Cache-Status", joined_by (codes ", ") (values ++ (status_element how o ∷ [])))

-- the age in whole seconds, from 2^31 on that (RFC 9111, 1.2.2, 5.1)
abbrev pub age_seconds : ℤ → ℕ → ℕ
age_seconds arrival now = min (unsigned_abs (age arrival now) / second) (2 ^ 31)

abbrev pub age_line : ℤ → ℕ → Field
age_line arrival now = (codes "Age", decimal (age_seconds arrival now))

-- lines without these names, more lines, and one Cache-Status
abbrev pub sent : List (List ℕ) → List Field → List Field → List (List ℕ) → Chosen → List Field
sent left_out lines more how o = without left_out lines ++ more ++ (cache_status (all (codes "cache-status") lines) how o ∷ [])
