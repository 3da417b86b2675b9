use Rattle.std.proofs.Common.{◌∙◌, ap, length}
use Rattle.store_memory.specs.declared.flight.Flight.{Flight}
use Rattle.store_memory.specs.Alive.{has}
use Rattle.store_memory.proofs.FirstLaws.{written-none, written-some}
use Rattle.store_memory.proofs.cache.MemCache.written.Goals as goal

pub returns-in-Some : goal.returns-in-Some
returns-in-Some g c =
    rw (← c.self.view_is)
    (c.len.ensures ∙ ap (λ (f : Flight). length f.pieces) c.flight.ensures
    ∙ written-some (has c.self.inside.alive) c.args.number c.in-Some.kept.now c.self.inside.flights.entries c.in-Some.ensures.value)

pub returns-in-None : goal.returns-in-None
returns-in-None g c = rw (← c.self.view_is) (written-none (has c.self.inside.alive) c.args.number c.self.inside.flights.entries c.in-None.ensures.value)
