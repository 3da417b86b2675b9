use Rattle.std.proofs.Common.{◌≡◌, ◌+◌, [], false, length}
use Rattle.std.specs.Prelude.{Some}
use Rattle.std.specs.Option.{option_map_or}
use Rattle.http1_message_parts.specs.Lines.{lines_of, rows_of}
use Rattle.rules_serving.specs.Whole.{with_text}
use Rattle.rules_serving.proofs.Copied.{plus, copied_rows}
use Rattle.rules_serving.proofs.rows.add_rows.Given as goal

abbrev pub invariant-loop-left : goal.invariant-loop-left
invariant-loop-left l = plus l.text.items l.says (option_map_or (λ t. copied_rows (rows_of (lines_of t.now))) l.left (Some (with_text [] false))) ≡ plus l.fn.text.items false (copied_rows (rows_of (lines_of l.block)))

abbrev pub decreases-loop-left : goal.decreases-loop-left
decreases-loop-left l = option_map_or (λ t. length t.now + 1) l.left 0
