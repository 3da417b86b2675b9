use Rattle.std.proofs.Common.{◌≡◌, ◌++◌, map, drop}
use Rattle.std.specs.List.{flat_map}
use Rattle.rules_reuse.specs.Variants.{joined}
use Rattle.rules_reuse.proofs.variants.joined.Given as goal

abbrev pub invariant-loop-piece : goal.invariant-loop-piece
invariant-loop-piece l = l.text.items ++ flat_map (λ q. l.between ++ q) (map (λ p. p.now) (drop l.piece-index l.rest)) ≡ joined l.between (map (λ p. p.now) l.pieces)
