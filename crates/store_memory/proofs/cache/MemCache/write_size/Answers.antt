use Rattle.std.proofs.Common.{◌+◌, ◌∙◌, ap, ap₂, length, Some}
use Rattle.cache_heads.specs.declared.meta.CacheMeta.{CacheMeta}
use Rattle.store_memory.specs.declared.flight.Flight.{Flight}
use Rattle.store_memory.specs.Alive.{has}
use Rattle.store_memory.proofs.FirstLaws.{size-none, size-some}
use Rattle.store_memory.proofs.cache.MemCache.write_size.Goals as goal

pub returns-in-Some : goal.returns-in-Some
returns-in-Some g c =
    rw (← c.self.view_is)
    (ap Some (ap₂ (λ a b. a + b) (c.len.ensures ∙ ap (λ (f : Flight). length f.pieces) c.flight-flight.ensures)
    (c.external-external.ensures ∙ ap (λ (m : CacheMeta). m.external) c.packed.ensures ∙ ap (λ (f : Flight). f.meta.external) c.flight-flight.ensures))
    ∙ size-some (has c.self.inside.alive) c.args.number c.in-Some.kept.now c.self.inside.flights.entries c.in-Some.ensures.value)

pub returns-in-None : goal.returns-in-None
returns-in-None g c = rw (← c.self.view_is) (size-none (has c.self.inside.alive) c.args.number c.self.inside.flights.entries c.in-None.ensures.value)
