-- The head of a response as text, a line a value.
use Rattle.std.specs.Prelude.{◌≡◌, ◌==◌, ◌+◌, ℕ, false, cond, if◌then◌else◌, List, [], ◌∷◌, ◌++◌, drop, flat_map, codes}
use Rattle.http_header.specs.FieldName.{IsHeaderName}
use Rattle.http_header.specs.FieldValue.{FieldValue, IsFieldValue, plain_value}
use Rattle.http_header.specs.HeaderMap.{pairs}
use Rattle.head_lines.specs.declared.header.ResponseHeader.{ResponseHeader}

-- a line: a name, a colon and a space, a value, CR LF
abbrev pub text_line : List ℕ × FieldValue → List ℕ
text_line field = field.0 ++ (codes ": " ++ (field.1.bytes ++ codes "\r\n"))

-- the lines of a head, in the order of its map
abbrev pub head_text : ResponseHeader → List ℕ
head_text h = flat_map text_line (pairs h.headers)

-- how many line feeds a text has, as each line ends with one
abbrev pub line_feeds : List ℕ → ℕ
line_feeds [] = 0
line_feeds (b ∷ bs) = (if b == 10 then 1 else 0) + line_feeds bs

-- a field that its line gives back: its value is not marked as sensitive
pub record IsPlainField (field : List ℕ × FieldValue) : Type 0 where
  pub name : IsHeaderName field.0
  pub value : IsFieldValue field.1.bytes
  pub flag : field.1.is_sensitive ≡ false

-- the bytes before the first b
abbrev pub before : ℕ → List ℕ → List ℕ
before b [] = []
before b (x ∷ xs) = cond (x == b) [] (x ∷ before b xs)

-- the bytes after the first b
abbrev pub past : ℕ → List ℕ → List ℕ
past b [] = []
past b (x ∷ xs) = cond (x == b) xs (past b xs)

-- what comes after the name of a text's first line
abbrev pub past_name : List ℕ → List ℕ
past_name text = drop 1 (past 58 text)

-- the fields of a text's lines, at most as many as a list is long: a name ends before a colon, a value before CR
abbrev pub fields_within : List ℕ → List ℕ → List (List ℕ × FieldValue)
fields_within [] text = []
fields_within (_ ∷ most) [] = []
fields_within (_ ∷ most) (b ∷ bs) = (before 58 (b ∷ bs), plain_value (before 13 (past_name (b ∷ bs)))) ∷ fields_within most (drop 1 (past 13 (past_name (b ∷ bs))))

-- the fields of a text's lines
abbrev pub fields_in : List ℕ → List (List ℕ × FieldValue)
fields_in text = fields_within text text
