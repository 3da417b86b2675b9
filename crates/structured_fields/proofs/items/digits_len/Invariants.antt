use Rattle.std.proofs.Common.{◌≡◌, ◌+◌, drop}
use Rattle.std.specs.Char.{is_ascii_digit}
use Rattle.structured_fields.specs.Items.{run_of}
use Rattle.structured_fields.proofs.items.digits_len.Given as goal

abbrev pub invariant-loop-i : goal.invariant-loop-i
invariant-loop-i l = l.i + run_of is_ascii_digit (drop l.i l.text) ≡ run_of is_ascii_digit l.text
