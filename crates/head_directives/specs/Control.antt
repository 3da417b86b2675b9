-- The directives of a `CacheControl`, and those of a head.
use Rattle.std.specs.Prelude.{ℕ, List, [], ◌∷◌, map, Option, Some, None}
use Rattle.http_header.specs.HeaderMap.{Entries, get_all}
use Rattle.http_header.specs.Token.{lowercase}
use Rattle.http_header.specs.FieldValue.{FieldValue}
use Rattle.head_directives.specs.Keeps.{kept}
use Rattle.head_directives.specs.Written.{Written}
use Rattle.head_directives.specs.Entries.{entries_of, HasOwnKeys}
use Rattle.head_directives.specs.declared.control.CacheControl.{CacheControl}

abbrev pub directives_of : CacheControl → List Written
directives_of c = entries_of c.directives.entries

-- the lines of a head under a name
abbrev pub lines_under : List ℕ → Entries FieldValue → List (List ℕ)
lines_under name head = map (λ line. line.bytes) (get_all head (lowercase name))

-- what lines leave, and none where there is no line
abbrev pub named : List (List ℕ) → Option (List Written)
named [] = None
named (line ∷ lines) = Some (kept (line ∷ lines))

-- each named directive is its own variant
abbrev pub HasOwnVariants : CacheControl → Type 0
HasOwnVariants c = HasOwnKeys c.directives.entries
