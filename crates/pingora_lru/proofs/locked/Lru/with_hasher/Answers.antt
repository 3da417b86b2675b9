use Rattle.std.proofs.Common.{◌≡◌, arith, ◌∙◌}
use Rattle.pingora_lru.proofs.locked.Lru.with_hasher.Goals as goal

pub invariant_of-result-clause-count : goal.invariant_of-result-clause-count
invariant_of-result-clause-count g c = let e : c.made.counter ≡ g.row.N = omega arith in c.made.invariant ∙ e
