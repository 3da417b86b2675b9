use Rattle.std.proofs.Common.{refl, ◌∙◌}
use Rattle.store_memory.proofs.BodyLaws.{has-body, kept-renewed}
use Rattle.store_memory.proofs.cache.MemCache.set_meta.Goals as goal

pub returns-clause-found : goal.returns-clause-found
returns-clause-found g c = rw (← c.self.view_is) (c.set_meta.ensures.found ∙ has-body c.args.key.now c.self.inside.bodies.entries)

pub returns-clause-renewed : goal.returns-clause-renewed
returns-clause-renewed g c =
    rw (← c.self.view_is) (record { bodies = kept-renewed c.args.key.now (λ _. c.args.meta) c.self.inside.bodies.entries c.set_meta.new.bodies.entries c.set_meta.ensures.after; flying = refl; next = refl; readings = refl })
