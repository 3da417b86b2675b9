use Rattle.std.proofs.Common.{◌≡◌, ◌++◌, drop, map}
use Rattle.rules_ffi.specs.Sets.{ended}
use Rattle.rules_ffi.proofs.sets.add_names.Given as goal

abbrev pub invariant-loop-name : goal.invariant-loop-name
invariant-loop-name l = l.text.items ++ ended (map (λ n. n.now) (drop l.name-index l.names)) ≡ l.fn.text.items ++ ended (map (λ n. n.now) l.names)
