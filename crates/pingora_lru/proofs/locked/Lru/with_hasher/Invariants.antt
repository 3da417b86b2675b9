use Rattle.std.proofs.Common.{◌≡◌, vec_len}
use Rattle.pingora_lru.proofs.locked.Lru.with_hasher.Given as goal

abbrev pub invariant-made : goal.invariant-made
invariant-made g l = vec_len l.shards ≡ l.counter
