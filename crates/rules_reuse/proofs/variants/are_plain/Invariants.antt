use Rattle.std.proofs.Common.{◌≡◌, map, drop}
use Rattle.std.specs.List.{list_all}
use Rattle.rules_reuse.specs.Variants.{is_plain}
use Rattle.rules_reuse.proofs.variants.are_plain.Given as goal

abbrev pub invariant-loop-value : goal.invariant-loop-value
invariant-loop-value l = list_all is_plain (map (λ v. v.now) (drop l.value-index l.values)) ≡ list_all is_plain (map (λ v. v.now) l.values)
