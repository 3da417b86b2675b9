use Rattle.std.proofs.Common.{◌≡◌, ◌+◌, [], length}
use Rattle.std.specs.Option.{option_map_or}
use Rattle.std.specs.Prelude.{Ok}
use Rattle.rules_fields.specs.Fields.{fields}
use Rattle.http1_message_parts.specs.Lines.{lines_of, rows_of, fields_within}
use Rattle.http1_message_parts.proofs.Reading.{behind}
use Rattle.http1_message_parts.proofs.rows.read_fields.Given as goal

abbrev pub invariant-loop-left : goal.invariant-loop-left
invariant-loop-left l = behind (fields l.found.items) (option_map_or (λ t. fields_within l.room (rows_of (lines_of t.now))) l.left (Ok [])) ≡ fields_within l.most (rows_of (lines_of l.text))

abbrev pub decreases-loop-left : goal.decreases-loop-left
decreases-loop-left l = option_map_or (λ t. length t.now + 1) l.left 0
