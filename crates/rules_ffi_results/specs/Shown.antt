-- What is shown of a response to who asked for it.
use Rattle.std.specs.Prelude.{◌==◌, if◌then◌else◌, length}
use Rattle.rules_fields.specs.Fields.{without}
use Rattle.rules_fields.specs.Types.{Answered, Chosen}

-- without the lines that the operator drops
abbrev pub dropped : Chosen → Answered → Answered
dropped o p = record p { lines = without o.response_drops p.lines }

abbrev pub shown : Chosen → Answered → Answered
shown o p = if length o.response_drops == 0 then p else dropped o p
