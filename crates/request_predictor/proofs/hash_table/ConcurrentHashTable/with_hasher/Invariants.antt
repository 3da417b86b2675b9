use Rattle.std.proofs.Common.{◌≡◌, vec_len}
use Rattle.request_predictor.proofs.hash_table.ConcurrentHashTable.with_hasher.Given as goal

abbrev pub invariant-tables : goal.invariant-tables
invariant-tables g l = vec_len l.tables ≡ l.counter
