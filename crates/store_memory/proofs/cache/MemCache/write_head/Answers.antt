use Rattle.std.proofs.Common.{◌∙◌, ap, Some}
use Rattle.head_lines.specs.declared.header.ResponseHeader.{ResponseHeader}
use Rattle.cache_heads.specs.declared.meta.CacheMeta.{CacheMeta}
use Rattle.store_memory.specs.declared.flight.Flight.{Flight}
use Rattle.store_memory.specs.Alive.{has}
use Rattle.store_memory.proofs.FirstLaws.{head-none, head-some}
use Rattle.store_memory.proofs.cache.MemCache.write_head.Goals as goal

pub returns-in-Some : goal.returns-in-Some
returns-in-Some g c =
    rw (← c.self.view_is)
    (ap (λ (h : ResponseHeader). Some h) (c.head.ensures ∙ ap (λ (m : CacheMeta). m.header) c.packed.ensures ∙ ap (λ (f : Flight). f.meta.header) c.flight.ensures)
    ∙ head-some (has c.self.inside.alive) c.args.number c.in-Some.kept.now c.self.inside.flights.entries c.in-Some.ensures.value)

pub returns-in-None : goal.returns-in-None
returns-in-None g c = rw (← c.self.view_is) (head-none (has c.self.inside.alive) c.args.number c.self.inside.flights.entries c.in-None.ensures.value)
