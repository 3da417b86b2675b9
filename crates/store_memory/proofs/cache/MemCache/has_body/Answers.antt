use Rattle.std.proofs.Common.{◌∙◌}
use Rattle.store_memory.proofs.BodyLaws.{has-body}
use Rattle.store_memory.proofs.cache.MemCache.has_body.Goals as goal

pub returns : goal.returns
returns g c = rw (← c.self.view_is) (c.has.ensures ∙ has-body c.args.key.now c.self.inside.bodies.entries)
