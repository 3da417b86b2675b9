use Rattle.std.proofs.Common.{◌≡◌, ◌+◌, drop, false}
use Rattle.std.specs.Prelude.{option_map}
use Rattle.structured_fields.specs.Items.{string_len}
use Rattle.structured_fields.proofs.items.string_len.Given as goal

abbrev pub invariant-loop-i : goal.invariant-loop-i
invariant-loop-i l = option_map (λ n. l.i + n) (string_len l.escaped (drop l.i l.text)) ≡ string_len false l.text
