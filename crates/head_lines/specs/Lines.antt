-- Header lines, and the map that they give (RFC 9110, section 5).
use Rattle.std.specs.Prelude.{ℕ, List, [], map}
use Rattle.http_header.specs.HeaderMap.{Entries, append_all}
use Rattle.http_header.specs.FieldName.{IsFieldName}
use Rattle.http_header.specs.FieldValue.{FieldValue, plain_value, IsFieldValue}
use Rattle.http_header.specs.Token.{lowercase}

-- a line: its name in any case, and its value
abbrev pub Line : Type 0
Line = List ℕ × List ℕ

-- the line as a map keeps it
abbrev pub pair_of : Line → List ℕ × FieldValue
pair_of line = (lowercase line.0, plain_value line.1)

-- the map that lines give
abbrev pub map_of : List Line → Entries FieldValue
map_of lines = append_all [] (map pair_of lines)

-- a name and a value that a map takes
abbrev pub IsLine : Line → Type 0
IsLine line = IsFieldName line.0 × IsFieldValue line.1
