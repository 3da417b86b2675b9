use Rattle.std.proofs.Common.{◌≡◌, ◌+◌, ◌≤◌, length}
use Rattle.std.specs.Option.{option_map_or}
use Rattle.http1_message_parts.specs.Lines.{lines_of}
use Rattle.rules_ffi_arguments.specs.Words.{wrong_row}
use Rattle.rules_ffi_arguments.proofs.words.wrong_row.Given as goal

abbrev pub invariant-loop-left : goal.invariant-loop-left
invariant-loop-left l = record {
  value : option_map_or (λ t. wrong_row l.count (lines_of t.now)) l.left 0 ≡ wrong_row 1 (lines_of l.words);
  room : l.count + option_map_or (λ t. length t.now + 1) l.left 0 ≤ length l.words + 2;
}

abbrev pub decreases-loop-left : goal.decreases-loop-left
decreases-loop-left l = option_map_or (λ t. length t.now + 1) l.left 0
