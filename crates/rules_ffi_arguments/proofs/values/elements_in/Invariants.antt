use Rattle.std.proofs.Common.{◌≡◌, ◌+◌, ◌≤◌, length}
use Rattle.std.specs.Option.{option_map_or}
use Rattle.rules_fields.specs.Fields.{elements_of}
use Rattle.rules_ffi_arguments.proofs.values.elements_in.Given as goal

abbrev pub invariant-loop-left : goal.invariant-loop-left
invariant-loop-left l = record {
  value : l.count + option_map_or (λ t. length (elements_of t.now)) l.left 0 ≡ length (elements_of l.value);
  room : l.count + option_map_or (λ t. length t.now + 1) l.left 0 ≤ length l.value + 1;
}

abbrev pub decreases-loop-left : goal.decreases-loop-left
decreases-loop-left l = option_map_or (λ t. length t.now + 1) l.left 0
