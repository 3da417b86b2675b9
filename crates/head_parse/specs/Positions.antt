-- Where the last of some bytes stands in its line.
use Rattle.std.specs.Prelude.{ℕ, ◌==◌, ◌||◌, List, [], ◌∷◌, if◌then◌else◌}
use Rattle.head_parse.specs.declared.position.Position.{Position}
use Rattle.head_parse.specs.declared.position.Position.TheVariants.{BeforeText, InLine, LineStart, AfterReturn, AfterEmptyLine}

-- after a line comes an empty one, a CR, or text
abbrev pub after_line : ℕ → Position
after_line b = if b == 10 then AfterEmptyLine else (if b == 13 then AfterReturn else InLine)

abbrev pub position_after_byte : Position → ℕ → Position
position_after_byte BeforeText b = if b == 10 || b == 13 then BeforeText else InLine
position_after_byte InLine b = if b == 10 then LineStart else InLine
position_after_byte LineStart b = after_line b
position_after_byte AfterEmptyLine b = after_line b
position_after_byte AfterReturn b = if b == 10 then AfterEmptyLine else InLine

abbrev pub position_after : Position → List ℕ → Position
position_after p [] = p
position_after p (b ∷ bytes) = position_after (position_after_byte p b) bytes
