use Rattle.std.proofs.Common.{◌≡◌, ◌+◌, drop}
use Rattle.structured_fields.specs.Items.{run_of, is_base64_byte}
use Rattle.structured_fields.proofs.items.base64_run.Given as goal

abbrev pub invariant-loop-i : goal.invariant-loop-i
invariant-loop-i l = l.i + run_of is_base64_byte (drop l.i l.text) ≡ run_of is_base64_byte l.text
