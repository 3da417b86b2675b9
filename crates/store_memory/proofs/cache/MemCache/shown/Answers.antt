use Rattle.std.proofs.Common.{sym, ◌∙◌, ap}
use Rattle.std.specs.Prelude.{None, Some, find}
use Rattle.std.specs.Option.{option_copied}
use Rattle.cache_changes.specs.Store.{is_of}
use Rattle.store_memory.specs.Alive.{has}
use Rattle.store_memory.specs.Kept.{bodies_of}
use Rattle.store_memory.proofs.ShownLaws.{shown-flight, shown-rest}
use Rattle.store_memory.proofs.cache.MemCache.shown.Goals as goal

pub returns-in-Some : goal.returns-in-Some
returns-in-Some g c =
    rw (← c.self.view_is) (shown-flight (has c.self.inside.alive) c.self.inside.flights c.self.inside.next c.args.key.now c.in-Some.number c.flight.result.now (find (is_of c.args.key.now) (bodies_of c.self.inside.bodies.entries)) c.self.invariant
    c.in-Some.ensures.some.0 c.in-Some.ensures.some.1 (sym c.get.ensures.value ∙ ap option_copied c.unwrap.ensures ∙ ap Some (sym c.flight.ensures)))

pub returns-in-Some-get : goal.returns-in-Some-get
returns-in-Some-get g c =
    rw (← c.self.view_is) (shown-rest (has c.self.inside.alive) c.self.inside.flights.entries c.args.key.now c.self.inside.bodies.entries (Some c.in-Some-get.kept.now) c.in-None.ensures.none (sym c.in-Some-get.ensures))

pub returns-in-None-get : goal.returns-in-None-get
returns-in-None-get g c =
    rw (← c.self.view_is) (shown-rest (has c.self.inside.alive) c.self.inside.flights.entries c.args.key.now c.self.inside.bodies.entries None c.in-None.ensures.none (sym c.in-None-get.ensures))
