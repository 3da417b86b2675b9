use Rattle.lru_core.specs.Cores.{Evicts, core_len}
use Rattle.lru_core.proofs.sharded.LruCore.evict_to_limit.Given as goal

abbrev pub invariant-steps : goal.invariant-steps
invariant-steps g l = Evicts g.row.N l.fn.self l.pairs.items (g.R.Rng.stream l.fn.rng) l.self (g.R.Rng.stream l.rng)

abbrev pub decreases-steps : goal.decreases-steps
decreases-steps g l = core_len l.self.shards
