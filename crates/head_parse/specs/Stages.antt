-- The stages of the code, as what they hold.
use Rattle.std.specs.Prelude.{ℕ, List, Option, Some, None}
use Rattle.head_parse.specs.declared.parse.Stage.{Stage}
use Rattle.head_parse.specs.declared.parse.Stage.TheVariants as stage
use Rattle.head_parse.specs.Parse.{ParserState, in_head, in_body, at_bad_head, ParserHolds}

abbrev pub held_of : Stage → ParserState
held_of (stage.Head front) = in_head front
held_of (stage.Body c) = in_body c.0 c.1
held_of stage.BadHead = at_bad_head

-- the stage to which these bytes came, after a head: another one, or the head as it is now
abbrev pub IsNext : List ℕ → List ℕ → Option Stage → Type 0
IsNext bytes front None = ParserHolds bytes (in_head front)
IsNext bytes front (Some next) = ParserHolds bytes (held_of next)
