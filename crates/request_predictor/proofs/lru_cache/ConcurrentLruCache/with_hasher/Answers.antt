use Rattle.std.proofs.Common.{◌≡◌, arith, ◌∙◌}
use Rattle.request_predictor.proofs.lru_cache.ConcurrentLruCache.with_hasher.Goals as goal

pub invariant_of-result-clause-count : goal.invariant_of-result-clause-count
invariant_of-result-clause-count g c = let e : c.lrus.counter ≡ g.row.N = omega arith in c.lrus.invariant ∙ e
