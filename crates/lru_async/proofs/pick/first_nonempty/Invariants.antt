use Rattle.std.proofs.Common.{◌≡◌, ◌-◌, ◌<◌, List, ℕ, length, map}
use Rattle.lru_core.specs.declared.rows.Row.{Row}
use Rattle.lru_core.specs.Cores.{first_nonempty_from}
use Rattle.lru_async.proofs.pick.first_nonempty.Given as goal

abbrev pub invariant-circle : goal.invariant-circle
invariant-circle l = record {
  within : l.i < length l.lens;
  same : (shards : List (List (Row ℕ))) → map length shards ≡ l.lens
      → first_nonempty_from (length l.lens) shards (length l.lens - l.counter) l.i ≡ first_nonempty_from (length l.lens) shards (length l.lens) l.from;
}
