use Rattle.std.proofs.Common.{◌∙◌, sym}
use Rattle.lru_numbers.specs.Names.{name_at}
use Rattle.cache_evict.proofs.GoneLaws.{sizes}
use Rattle.cache_evict.proofs.tracker.Tracker.total_size.Goals as goal

pub returns-clause-sum : goal.returns-clause-sum
returns-clause-sum g c = rw (← c.self.view_is) (c.weight.ensures ∙ sym (sizes (name_at c.self.inside.numbers) c.self.inside.core.shards))
