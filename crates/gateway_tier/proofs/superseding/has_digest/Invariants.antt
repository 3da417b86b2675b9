use Rattle.std.proofs.Common.{◌≡◌, false, map, take}
use Rattle.gateway_tier.specs.Superseding.{has_digest}
use Rattle.gateway_tier.proofs.superseding.has_digest.Given as goal

abbrev pub invariant-loop-key : goal.invariant-loop-key
invariant-loop-key l = has_digest l.digest (map (λ key. key.items) (take l.key-index l.keys)) ≡ false
