use Rattle.std.proofs.Common.{◌≡◌, ◌++◌, map, drop}
use Rattle.std.specs.List.{flat_map}
use Rattle.rules_response.specs.Answering.{type_line}
use Rattle.rules_response.proofs.multipart.type_texts.Given as goal

abbrev pub invariant-loop-value : goal.invariant-loop-value
invariant-loop-value l = l.text.items ++ flat_map type_line (map (λ v. v.now) (drop l.value-index l.values)) ≡ flat_map type_line (map (λ v. v.now) l.values)
