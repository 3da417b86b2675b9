-- The lines of a head as they are written (RFC 9112, 5). Bytes are numbers: 10 a LF, 13 a CR, 32 a space, 58 a colon.
use Rattle.std.specs.Prelude.{ℕ, Bool, true, not, ◌&&◌, List, [], ◌∷◌, ◌++◌, reverse}
use Rattle.std.specs.List.{list_all}
use Rattle.httparse.specs.Grammar.{is_token, is_value_byte}
use Rattle.rules_fields.specs.Texts.{is_blank}
use Rattle.rules_fields.specs.Fields.{Field}

abbrev pub begins_filled : List ℕ → Bool
begins_filled [] = true
begins_filled (b ∷ text) = not (is_blank b)

-- bytes of values, and no blank at either end
abbrev pub can_be_value : List ℕ → Bool
can_be_value value = list_all is_value_byte value && (begins_filled value && begins_filled (reverse value))

-- a line that can be written: its name is a token
abbrev pub is_writable : Field → Bool
is_writable f = is_token f.0 && can_be_value f.1

-- the name, a colon, a space, the value, and the end of the line
abbrev pub line_text : Field → List ℕ
line_text f = f.0 ++ (58 ∷ 32 ∷ (f.1 ++ (13 ∷ 10 ∷ [])))

-- all lines, and an empty one
abbrev pub written : List Field → List ℕ
written [] = 13 ∷ 10 ∷ []
written (f ∷ lines) = line_text f ++ written lines
