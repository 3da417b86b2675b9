-- The second key, of a request's fields by which responses vary (RFC 9111, 4.1). Bytes are numbers: 10 a line feed, 34 a quote, 40 a bracket, 44 a comma, 58 a colon.
use Rattle.std.specs.Prelude.{ℕ, Bool, true, false, not, ◌&&◌, ◌||◌, ◌==◌, if◌then◌else◌, List, [], ◌∷◌, ◌++◌, map, bytes_eq, codes, Option, Some, None}
use Rattle.std.specs.List.{list_any, list_all, flat_map}
use Rattle.std.specs.Option.{option_map_or}
use Rattle.rules_fields.specs.Texts.{trimmed, small}
use Rattle.rules_fields.specs.Tables.{among, range_fields, whole_conditions, frames, small_valued, list_valued}
use Rattle.rules_fields.specs.Fields.{Field, all, has_line, parts}

-- neither a quote nor a bracket, within which a comma is none of a list
abbrev pub is_plain : List ℕ → Bool
is_plain value = not (list_any (λ b. b == 34 || b == 40) value)

-- what stands between the commas of a value without blanks round it, or the value as it is
abbrev pub pieces_of : Bool → List ℕ → List (List ℕ)
pieces_of true value = map trimmed (parts value)
pieces_of false value = value ∷ []

-- the values of all lines of a list: blanks round commas don't count, unless one isn't plain
abbrev pub pieces : List (List ℕ) → List (List ℕ)
pieces values = flat_map (pieces_of (list_all is_plain values)) values

-- the first, and each further one behind a text
abbrev pub joined : List ℕ → List (List ℕ) → List ℕ
joined between [] = []
joined between (p ∷ ps) = p ++ flat_map (λ q. between ++ q) ps

-- in small letters where case means nothing
abbrev pub cased : List ℕ → List ℕ → List ℕ
cased name value = if among small_valued name then small value else value

-- what stands between lines that are no list: those of Cookie are one text too (RFC 6265, 5.4)
abbrev pub between : List ℕ → List ℕ
between name = if bytes_eq name (codes "cookie") then codes "; " else codes ", "

-- the value that a name's lines have together: that of a list, which blanks round commas are no part of, or another, byte for byte
abbrev pub value_of : List ℕ → List (List ℕ) → List ℕ
value_of name values = if among list_valued name then joined (codes ",") (pieces values) else joined (between name) values

-- a fetch sends this field as it came: it is no condition, no Range, and none that a proxy writes itself
abbrev pub goes_along : List ℕ → Bool
goes_along name = not (among range_fields name || among whole_conditions name || among frames name)

-- a request's value of a name; none where it has no line of it, or what is fetched has none
abbrev pub value_in : List Field → List ℕ → Option (List ℕ)
value_in request name =
    if has_line name request && goes_along name then Some (cased name (value_of name (all name request))) else None

-- a name, a colon and its value where it has one, and a line feed
abbrev pub line_of : List ℕ → Option (List ℕ) → List ℕ
line_of name value = name ++ option_map_or (λ v. 58 ∷ v) value [] ++ (10 ∷ [])

-- the second key of a request, by these names
abbrev pub secondary : List (List ℕ) → List Field → List ℕ
secondary names request = flat_map (λ name. line_of name (value_in request name)) names
