use Rattle.std.proofs.Common.{◌≡◌, ◌+◌, true, length}
use Rattle.std.specs.List.{list_all}
use Rattle.std.specs.Option.{option_map_or}
use Rattle.rules_fields.specs.Fields.{elements_of}
use Rattle.rules_ffi_arguments.specs.Values.{is_encoding}
use Rattle.rules_ffi_arguments.proofs.values.lists_encodings.Given as goal

abbrev pub invariant-loop-left : goal.invariant-loop-left
invariant-loop-left l = option_map_or (λ t. list_all is_encoding (elements_of t.now)) l.left true ≡ list_all is_encoding (elements_of l.value)

abbrev pub decreases-loop-left : goal.decreases-loop-left
decreases-loop-left l = option_map_or (λ t. length t.now + 1) l.left 0
