use Rattle.std.proofs.Common.{◌≡◌, ◌++◌, map, drop}
use Rattle.std.specs.List.{flat_map}
use Rattle.rules_reuse.specs.Variants.{pieces_of}
use Rattle.rules_reuse.proofs.variants.pieces.Given as goal

abbrev pub invariant-loop-value : goal.invariant-loop-value
invariant-loop-value l = map (λ p. p.now) l.found.items ++ flat_map (pieces_of l.plain) (map (λ v. v.now) (drop l.value-index l.values)) ≡ flat_map (pieces_of l.plain) (map (λ v. v.now) l.values)
