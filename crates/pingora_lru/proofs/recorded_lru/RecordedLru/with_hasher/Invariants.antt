use Rattle.std.proofs.Common.{◌≡◌, vec_len}
use Rattle.pingora_lru.proofs.recorded_lru.RecordedLru.with_hasher.Given as goal

abbrev pub invariant-made : goal.invariant-made
invariant-made g l = vec_len l.shards ≡ l.counter
