-- The request that a cache sends on: for the whole response, without the client's conditions, and with its own where it has a response
-- (RFC 9110, 13.1; RFC 9111, 4.3.1).
use Rattle.std.specs.Prelude.{◌⊎◌, ℕ, List, [], ◌∷◌, Option, Some, None, codes, fold, if◌then◌else◌, bytes_eq}
use Rattle.http_header.specs.HeaderMap.{Entries, get, insert, remove, RefusesInsert}
use Rattle.http_header.specs.FieldValue.{FieldValue}

-- HEAD becomes GET, since a head alone is no response to keep
abbrev pub method_sent : List ℕ → List ℕ
method_sent method = if bytes_eq method (codes "HEAD") then codes "GET" else method

abbrev pub conditions : List (List ℕ)
conditions = codes "if-match" ∷ codes "if-none-match" ∷ codes "if-modified-since" ∷ codes "if-unmodified-since" ∷ codes "if-range" ∷ codes "range" ∷ []

-- the head without conditions
unfoldable pub unconditional : Entries FieldValue → Entries FieldValue
unconditional head = fold (λ h name. remove h name) head conditions

-- the head with a value under a name, where there is one
abbrev pub with_value : Entries FieldValue → List ℕ → Option FieldValue → Entries FieldValue
with_value head name None = head
with_value head name (Some value) = insert head name value

-- the head that asks for a response newer than the one that is kept
abbrev pub with_validators : Entries FieldValue → Entries FieldValue → Entries FieldValue
with_validators head kept =
    with_value (with_value head (codes "if-modified-since") (get kept (codes "last-modified")))
    (codes "if-none-match") (get kept (codes "etag"))

abbrev pub fields_sent : Entries FieldValue → Option (Entries FieldValue) → Entries FieldValue
fields_sent head None = unconditional head
fields_sent head (Some kept) = with_validators (unconditional head) kept

-- there is no room for one of the conditions
abbrev pub RefusesValidators : Entries FieldValue → Entries FieldValue → Type 0
RefusesValidators head kept =
    RefusesInsert head (codes "if-modified-since")
    ⊎ RefusesInsert (with_value head (codes "if-modified-since") (get kept (codes "last-modified"))) (codes "if-none-match")

abbrev pub LacksRoom : Entries FieldValue → Option (Entries FieldValue) → Type 0
LacksRoom head None = ⊥
LacksRoom head (Some kept) = RefusesValidators (unconditional head) kept
