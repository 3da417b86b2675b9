-- Texts that are written. Bytes are numbers: 10 a LF, 13 a CR, 32 a space, 58 a colon.
use Rattle.rules_ffi_arguments.specs.declared.shapes.Span.{Span}
use Rattle.std.specs.Prelude.{◌≡◌, ℕ, ◌+◌, Bool, true, false, ◌<◌, ◌≤◌, List, [], ◌∷◌, ◌++◌, length, drop}
use Rattle.rules_fields.specs.Fields.{Field}

-- the name, a colon, a space, the value, and the end of the line
abbrev pub line_text : Field → List ℕ
line_text f = f.0 ++ (58 ∷ 32 ∷ []) ++ f.1 ++ (13 ∷ 10 ∷ [])

abbrev pub block : List Field → List ℕ
block [] = []
block (f ∷ lines) = line_text f ++ block lines

-- a text was written at the front of a room, or doesn't fit there
abbrev pub Fits : List ℕ → List ℕ → List ℕ → Bool → Type 0
Fits old text new true = (length text ≤ length old) × (new ≡ text ++ drop (length text) old)
Fits old text new false = (length old < length text) × (new ≡ old)

-- where a text stands that begins at a place
abbrev pub behind : ℕ → List ℕ → Span
behind at text = record { from = at; to = at + length text }
