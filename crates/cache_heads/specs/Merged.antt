-- A response after the stale one of its key: what it takes from it, and the stale head that upstream confirms.
use Rattle.std.specs.Prelude.{ℕ, Option, Some, None, ◌<◌, ◌≤◌, ◌^◌, ◌⊎◌, List, [], ◌∷◌, length, codes}
use Rattle.http_header.specs.HeaderMap.{Entries, update, get_all, value_count}
use Rattle.head_lines.specs.declared.header.ResponseHeader.{ResponseHeader}
use Rattle.cache_heads.specs.declared.meta.CacheMeta.{CacheMeta}
use Rattle.cache_heads.specs.Meta.{provenance_of}

-- the new meta has the provenance of the one before, where there is one
abbrev pub with_provenance_of : Option CacheMeta → CacheMeta → CacheMeta
with_provenance_of None meta = meta
with_provenance_of (Some old) meta = record meta { internal = record meta.internal { provenance = Some (provenance_of old.internal) } }

-- a new meta with the moment of creation, the provenance and what is outside of the one before: the body is the same
abbrev pub renewed_from : Option CacheMeta → CacheMeta → CacheMeta
renewed_from None meta = meta
renewed_from (Some old) meta = record meta { internal = record meta.internal { created = old.internal.created; provenance = Some (provenance_of old.internal) }; external = old.external }

-- the fields that are taken from the response that confirms it (RFC 9111, 4.3.4; not those by which a response varies)
abbrev pub renewed_names : List (List ℕ)
renewed_names = codes "cache-control" ∷ codes "expires" ∷ codes "cache-tag" ∷ codes "cdn-cache-control" ∷ codes "etag" ∷ []

-- with these values of a name in the place of those before, if there are any; a new name goes last
abbrev pub with_values : {X : Type 0} → List ℕ → List X → Entries X → Entries X
with_values name [] m = m
with_values name (v ∷ vs) m = update m name (λ _. v ∷ vs)

-- with what was sent under these names
abbrev pub with_fields : {X : Type 0} → Entries X → List (List ℕ) → Entries X → Entries X
with_fields sent [] m = m
with_fields sent (name ∷ names) m = with_fields sent names (with_values name (get_all sent name) m)

-- the stale response's head with the fields that were sent
abbrev pub merged : ResponseHeader → ResponseHeader → ResponseHeader
merged old sent = record old { headers = with_fields sent.headers renewed_names old.headers }

-- more names, or more values, than a map can count
abbrev pub PassesCount : {X : Type 0} → Entries X → Type 0
PassesCount m = (24576 < length m) ⊎ (2 ^ 64 ≤ value_count m)

-- the map passes what it can count once what was sent under some of these names is taken, in their order
abbrev pub Outgrows : {X : Type 0} → Entries X → List (List ℕ) → Entries X → Type 0
Outgrows sent [] m = ⊥
Outgrows sent (name ∷ names) m = PassesCount (with_values name (get_all sent name) m) ⊎ Outgrows sent names (with_values name (get_all sent name) m)
