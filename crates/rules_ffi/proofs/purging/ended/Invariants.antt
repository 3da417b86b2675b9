use Rattle.std.proofs.Common.{◌≡◌, ◌++◌, drop, map}
use Rattle.rules_ffi.specs.Keys.{ended}
use Rattle.rules_ffi.proofs.purging.ended.Given as goal

abbrev pub invariant-loop-key : goal.invariant-loop-key
invariant-loop-key l = l.text.items ++ ended (map (λ k. k.items) (drop l.key-index l.keys)) ≡ ended (map (λ k. k.items) l.keys)
