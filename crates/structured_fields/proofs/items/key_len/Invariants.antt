use Rattle.std.proofs.Common.{◌≡◌, ◌+◌, drop}
use Rattle.structured_fields.specs.Items.{run_of, is_key_byte}
use Rattle.structured_fields.proofs.items.key_len.Given as goal

abbrev pub invariant-loop-i : goal.invariant-loop-i
invariant-loop-i l = l.i + run_of is_key_byte (drop l.i l.text) ≡ run_of is_key_byte l.text
