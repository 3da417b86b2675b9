use Rattle.std.proofs.Common.{refl, ◌∙◌}
use Rattle.cache_store.specs.Renewals.{expired}
use Rattle.store_memory.proofs.BodyLaws.{has-body, kept-renewed}
use Rattle.store_memory.proofs.cache.MemCache.expire_body.Goals as goal

pub returns-clause-found : goal.returns-clause-found
returns-clause-found g c = rw (← c.self.view_is) (c.expire.ensures.found ∙ has-body c.args.key.now c.self.inside.bodies.entries)

pub returns-clause-renewed : goal.returns-clause-renewed
returns-clause-renewed g c =
    rw (← c.self.view_is) (record { bodies = kept-renewed c.args.key.now (expired c.args.moment) c.self.inside.bodies.entries c.expire.new.bodies.entries c.expire.ensures.after; flying = refl; next = refl; readings = refl })
