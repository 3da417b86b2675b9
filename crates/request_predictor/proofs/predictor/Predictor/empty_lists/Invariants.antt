use Rattle.std.proofs.Common.{◌≡◌, [], replicate}
use Rattle.std.specs.NonZero.{non_zero_usize_get}
use Rattle.lru.specs.LruCache.{lru_cache}
use Rattle.request_predictor.proofs.predictor.Predictor.empty_lists.Given as goal

abbrev pub invariant-lists : goal.invariant-lists
invariant-lists g l = l.lists.items ≡ replicate l.counter (lru_cache [] (non_zero_usize_get l.fn.capacity))
