use Rattle.std.proofs.Common.{◌≡◌, ◌-◌, ◌^◌, map}
use Rattle.std.specs.Prelude.{min}
use Rattle.std.specs.List.{sum_by}
use Rattle.std.specs.Map.Iter.{deref}
use Rattle.store_memory.proofs.bodies.external_of_all.Given as goal

abbrev pub invariant-loop-body : goal.invariant-loop-body
invariant-loop-body g l = l.count ≡ min (sum_by (λ b. b.meta.external) (map deref l.yielded)) (2 ^ 64 - 1)
