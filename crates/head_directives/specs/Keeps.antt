-- The directives that a header's lines leave, each name once: its last value, in the place where the name came first.
-- That the last value counts is this cache's choice; RFC 9111, 4.2.1 asks for the first, or for none.
use Rattle.std.specs.Prelude.{◌≡◌, ℕ, Bool, List, [], map, fold, Option, Some, None, nat_eq, is_some, if◌then◌else◌, true, false, ◌∷◌, ◌&&◌}
use Rattle.std.specs.List.{AllZip}
use Rattle.std.specs.Char.{to_ascii_lowercase}
use Rattle.std.specs.Str.{is_utf8}
use Rattle.std.specs.Map.{lookup}
use Rattle.std.specs.Cmp.Lexicographic.{pointwise}
use Rattle.indexmap.specs.IndexMap.{insert_entry}
use Rattle.head_directives.specs.Written.{Written}
use Rattle.head_directives.specs.Reads.{HoldsDirectives}
use Rattle.head_directives.specs.Walk.{directives}

-- a name that is no text is passed over, others are read in any case
abbrev pub keep : List Written → Written → List Written
keep entries d = if is_utf8 d.0 then insert_entry (pointwise nat_eq) entries (map to_ascii_lowercase d.0) d.1 else entries

abbrev pub keep_all : List Written → List Written → List Written
keep_all entries ds = fold keep entries ds

abbrev pub keep_line : List Written → List ℕ → List Written
keep_line entries line = keep_all entries (directives line)

-- what lines leave, read in order
abbrev pub keep_lines : List Written → List (List ℕ) → List Written
keep_lines entries lines = fold keep_line entries lines

abbrev pub kept : List (List ℕ) → List Written
kept lines = keep_lines [] lines

-- the same in the words of the grammar: each line holds its directives, and all of them are kept in order
abbrev pub IsKept : List (List ℕ) → List Written → Type 0
IsKept lines entries = (held : List (List Written)) × AllZip HoldsDirectives lines held × (entries ≡ fold keep_all [] held)

-- the value under a name: none without the name, and some none where it has no value
abbrev pub value_named : List ℕ → List Written → Option (Option (List ℕ))
value_named name entries = lookup (pointwise nat_eq name) entries

abbrev pub has : List ℕ → List Written → Bool
has name entries = is_some (value_named name entries)

abbrev pub is_none_value : Option (Option (List ℕ)) → Bool
is_none_value None = false
is_none_value (Some None) = true
is_none_value (Some (Some value)) = false

-- the name is there without a value
abbrev pub is_alone : List ℕ → List Written → Bool
is_alone name entries = is_none_value (value_named name entries)

abbrev pub joined : Option (Option (List ℕ)) → Option (List ℕ)
joined None = None
joined (Some value) = value

-- the value under a name, where there is one
abbrev pub value_under : List ℕ → List Written → Option (List ℕ)
value_under name entries = joined (value_named name entries)

-- what the last directive of a name says, over all lines
abbrev pub last_of : List ℕ → Option (Option (List ℕ)) → List Written → Option (Option (List ℕ))
last_of name found [] = found
last_of name found (d ∷ ds) = last_of name (if is_utf8 d.0 && pointwise nat_eq name (map to_ascii_lowercase d.0) then Some d.1 else found) ds
