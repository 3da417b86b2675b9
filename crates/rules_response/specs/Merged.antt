-- A stored response as the fields of a 304 make it.
use Rattle.rules_fields.specs.Fields.{fields}
use Rattle.rules_fields.specs.Types.{Answered}
use Rattle.rules_response.specs.declared.confirming.Merged.{Merged}

abbrev pub merged_of : Merged → Answered
merged_of m = record { status = m.status; minor = m.minor; lines = fields m.lines.items; framing = m.framing }
