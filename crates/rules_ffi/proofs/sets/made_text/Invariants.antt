use Rattle.std.proofs.Common.{◌≡◌, ◌++◌, drop, map}
use Rattle.rules_ffi.specs.Sets.{ended}
use Rattle.rules_ffi.proofs.sets.made_text.Given as goal

abbrev pub invariant-loop-name : goal.invariant-loop-name
invariant-loop-name l = l.text.items ++ ended (map (λ n. n.items) (drop l.name-index l.names)) ≡ ended (map (λ n. n.items) l.names)
