use Rattle.std.proofs.Common.{◌≡◌, ◌+◌, length}
use Rattle.std.specs.Option.{option_map_or}
use Rattle.std.specs.Prelude.{nat_lt}
use Rattle.http1_message_parts.specs.Lines.{lines_of, rows_of}
use Rattle.http1_message_parts.proofs.rows.has_more_rows.Given as goal

abbrev pub invariant-loop-left : goal.invariant-loop-left
invariant-loop-left l = nat_lt l.room (option_map_or (λ t. length (rows_of (lines_of t.now))) l.left 0) ≡ nat_lt l.most (length (rows_of (lines_of l.text)))

abbrev pub decreases-loop-left : goal.decreases-loop-left
decreases-loop-left l = option_map_or (λ t. length t.now + 1) l.left 0
