use Rattle.std.proofs.Common.{sym, ◌∙◌}
use Rattle.std.proofs.lemmas.List.{length-map}
use Rattle.store_memory.specs.Kept.{body_of}
use Rattle.store_memory.proofs.FinishedLaws.{keys-kept}
use Rattle.store_memory.proofs.cache.MemCache.finished_len.Goals as goal

pub returns-clause-count : goal.returns-clause-count
returns-clause-count g c = rw (← c.self.view_is) (c.len.ensures.len ∙ sym (length-map c.self.inside.bodies.entries body_of))

pub returns-clause-unique : goal.returns-clause-unique
returns-clause-unique g c = rw (← c.self.view_is, keys-kept c.self.inside.bodies.entries) c.len.ensures.unique
