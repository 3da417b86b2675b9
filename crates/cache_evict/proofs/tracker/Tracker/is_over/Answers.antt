use Rattle.std.proofs.Common.{◌∙◌, sym}
use Rattle.lru_numbers.specs.Names.{name_at}
use Rattle.cache_evict.proofs.GoneLaws.{over}
use Rattle.cache_evict.proofs.tracker.Tracker.is_over.Goals as goal

pub returns : goal.returns
returns g c = rw (← c.self.view_is) (c.is_over.ensures ∙ sym (over (name_at c.self.inside.numbers) c.self.inside.core c.self.inside.evicted_size c.self.inside.evicted_items))
