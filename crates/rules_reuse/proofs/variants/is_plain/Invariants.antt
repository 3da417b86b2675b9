use Rattle.std.proofs.Common.{◌≡◌, drop}
use Rattle.rules_reuse.specs.Variants.{is_plain}
use Rattle.rules_reuse.proofs.variants.is_plain.Given as goal

abbrev pub invariant-loop-b : goal.invariant-loop-b
invariant-loop-b l = is_plain (drop l.b-index l.value) ≡ is_plain l.value
