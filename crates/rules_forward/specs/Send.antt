-- What is asked of the origin: the whole, to store it, or whether what is stored still holds (RFC 9111, 4.3.1).
use Rattle.std.specs.Prelude.{ℕ, Bool, not, ◌==◌, if◌then◌else◌, List, [], ◌∷◌, ◌++◌, length, codes, is_some, Option, Some, None}
use Rattle.rules_fields.specs.Tables.{conditions, range_fields, whole_conditions}
use Rattle.rules_fields.specs.Tags.{tag_of}
use Rattle.rules_fields.specs.Dates.{date_of}
use Rattle.rules_fields.specs.Fields.{Field, first, without}
use Rattle.rules_fields.specs.Types.{Asked, Chosen, KeptHead}

abbrev pub without_if : Bool → List (List ℕ) → List Field → List Field
without_if leaves names lines = if leaves then without names lines else lines

-- GET for HEAD, and without Range and conditions, as the operator chose
abbrev pub fill : Asked → Chosen → List ℕ × List Field
fill r o = (
  if o.fills_heads then codes "GET" else r.method,
  without_if o.fills_conditions whole_conditions (without_if o.fills_ranges range_fields r.lines),
)

abbrev pub tag_line : Option (List ℕ) → List Field
tag_line None = []
tag_line (Some value) = if is_some (tag_of value) then (codes "If-None-Match", value) ∷ [] else []

abbrev pub date_line : Option (List ℕ) → List Field
date_line None = []
date_line (Some value) = if is_some (date_of value) then (codes "If-Modified-Since", value) ∷ [] else []

-- the conditions by what is stored
abbrev pub own_conditions : KeptHead → List Field
own_conditions k = tag_line (first (codes "etag") k.lines) ++ date_line (first (codes "last-modified") k.lines)

-- own conditions in the place of the client's, and no Range; none where nothing is stored to validate by
abbrev pub validate : Asked → KeptHead → Option (List Field)
validate r k =
    if length (own_conditions k) == 0 then None
    else Some (without (codes "range" ∷ []) (without conditions r.lines) ++ own_conditions k)
