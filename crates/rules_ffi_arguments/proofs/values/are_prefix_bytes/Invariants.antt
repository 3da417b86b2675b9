use Rattle.std.proofs.Common.{◌≡◌, drop}
use Rattle.std.specs.List.{list_all}
use Rattle.rules_ffi_arguments.specs.Values.{is_prefix_byte}
use Rattle.rules_ffi_arguments.proofs.values.are_prefix_bytes.Given as goal

abbrev pub invariant-loop-b : goal.invariant-loop-b
invariant-loop-b l = list_all is_prefix_byte (drop l.b-index l.text) ≡ list_all is_prefix_byte l.text
