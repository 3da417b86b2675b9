use Rattle.lru_numbers.specs.Names.{name_at}
use Rattle.cache_evict.proofs.ShardLaws.{sharded}
use Rattle.cache_evict.proofs.tracker.Tracker.entries_are_sharded.Goals as goal

pub returns : goal.returns
returns g c =
    rw (← c.self.view_is) (sharded g.row.N (name_at c.self.inside.numbers) c.self.inside.core c.self.inside.evicted_size c.self.inside.evicted_items c.self.invariant)
