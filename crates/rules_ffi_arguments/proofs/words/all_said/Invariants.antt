use Rattle.std.proofs.Common.{◌≡◌, ◌+◌, ◌++◌, [], length, map}
use Rattle.std.specs.Prelude.{Some, option_map}
use Rattle.std.specs.Option.{option_map_or}
use Rattle.http1_message_parts.specs.Lines.{lines_of}
use Rattle.rules_ffi_arguments.specs.Words.{said, all_said}
use Rattle.rules_ffi_arguments.proofs.words.all_said.Given as goal

abbrev pub invariant-loop-left : goal.invariant-loop-left
invariant-loop-left l = all_said l.is_prepared (lines_of l.fn.text) ≡ option_map (λ ss. map said l.found.items ++ ss) (option_map_or (λ t. all_said l.is_prepared (lines_of t.now)) l.left (Some []))

abbrev pub decreases-loop-left : goal.decreases-loop-left
decreases-loop-left l = option_map_or (λ t. length t.now + 1) l.left 0
