-- What becomes of a line of a plain request, by its name in small letters.
use Rattle.std.specs.Prelude.{ℕ, if◌then◌else◌, List, [], ◌∷◌, bytes_eq, codes}
use Rattle.rules_fields.specs.Tables.{among, hop, asked}
use Rattle.rules_quick.specs.Plain.{watched}
use Rattle.rules_quick.specs.declared.names.Kind.{Kind}
use Rattle.rules_quick.specs.declared.names.Kind.TheVariants.{Kept, Asked, Hop, Connection, Host, Watched}

abbrev pub kind_of : List ℕ → Kind
kind_of name =
    if among watched name then Watched
    else (if bytes_eq name (codes "host") then Host
    else (if bytes_eq name (codes "connection") then Connection
    else (if among hop name then Hop
    else (if among asked name then Asked else Kept))))

-- the kind of the first row with this name, of names with their kinds, or another
abbrev pub found : {K : Type 0} → K → List ℕ → List (List ℕ × K) → K
found other name [] = other
found other name (row ∷ rows) = if bytes_eq name row.0 then row.1 else found other name rows
