-- HTTP dates in any case of letters.
use Rattle.std.specs.Prelude.{ℕ, ◌-◌, Bool, false, if◌then◌else◌, List, [], ◌∷◌, ◌++◌, map, length, take, drop, Option}
use Rattle.std.specs.Char.{to_ascii_lowercase, to_ascii_uppercase, is_ascii_alphabetic}
use Rattle.httpdate.specs.Date.{parse_secs}
use Rattle.rules_fields.specs.Texts.{trimmed}

-- a letter after a letter small, other letters large
abbrev pub words_from : Bool → List ℕ → List ℕ
words_from inside [] = []
words_from inside (b ∷ text) = (if inside then to_ascii_lowercase b else to_ascii_uppercase b) ∷ words_from (is_ascii_alphabetic b) text

-- the case of the formats: words, and at the end GMT or digits
unfoldable pub in_case : List ℕ → List ℕ
in_case text = words_from false (take (length text - 3) text) ++ map to_ascii_uppercase (drop (length text - 3) text)

-- the second that a date shows
unfoldable pub date_of : List ℕ → Option ℕ
date_of text = parse_secs (in_case (trimmed text))
