use Rattle.std.proofs.Common.{◌≡◌, ◌++◌, map}
use Rattle.rules_storage.specs.Selecting.{without_host}
use Rattle.rules_storage.proofs.selecting.without_host.Given as goal

abbrev pub invariant-loop-name : goal.invariant-loop-name
invariant-loop-name l = map (λ n. n.items) l.left.items ++ without_host (map (λ n. n.items) l.name-iterator.rest.items) ≡ without_host (map (λ n. n.items) l.fn.found.items)
