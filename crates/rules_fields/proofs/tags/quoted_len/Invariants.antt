use Rattle.std.proofs.Common.{◌≡◌, ◌+◌, drop}
use Rattle.std.specs.Prelude.{option_map}
use Rattle.rules_fields.specs.Tags.{quoted_len}
use Rattle.rules_fields.proofs.tags.quoted_len.Given as goal

abbrev pub invariant-loop-i : goal.invariant-loop-i
invariant-loop-i l = option_map (λ n. l.i + n) (quoted_len (drop l.i l.text)) ≡ quoted_len l.text
