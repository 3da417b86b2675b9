use Rattle.std.proofs.Common.{◌≡◌, ◌-◌, ◌<◌}
use Rattle.lru_core.specs.Cores.{first_nonempty_from}
use Rattle.lru_core.proofs.sharded.LruCore.first_nonempty_from.Given as goal

abbrev pub invariant-circle : goal.invariant-circle
invariant-circle g l = record {
  within : l.i < g.row.N;
  same : first_nonempty_from g.row.N l.self.shards (g.row.N - l.counter) l.i ≡ first_nonempty_from g.row.N l.self.shards g.row.N l.from;
}
