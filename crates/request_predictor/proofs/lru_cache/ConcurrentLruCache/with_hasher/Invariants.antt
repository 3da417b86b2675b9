use Rattle.std.proofs.Common.{◌≡◌, vec_len}
use Rattle.request_predictor.proofs.lru_cache.ConcurrentLruCache.with_hasher.Given as goal

abbrev pub invariant-lrus : goal.invariant-lrus
invariant-lrus g l = vec_len l.lrus ≡ l.counter
