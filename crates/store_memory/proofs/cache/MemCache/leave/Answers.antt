use Rattle.std.proofs.Common.{sym, ◌∙◌, ap}
use Rattle.std.specs.Prelude.{Some, option_map}
use Rattle.store_memory.specs.Alive.{has}
use Rattle.store_memory.specs.Kept.{seen, flights_of, bodies_of, readings_of}
use Rattle.store_memory.specs.declared.flight.Flight.{Flight}
use Rattle.store_memory.proofs.HeldLaws.{held, held-flying}
use Rattle.store_memory.proofs.RowLaws.{ascends}
use Rattle.store_memory.proofs.SeenLaws.{seen-landed}
use Rattle.store_memory.proofs.SoundLaws.{sound-entries, sound-landed}
use Rattle.store_memory.proofs.FinishLaws.{seen-at, not-seen-at, left-none, left-some}
use Rattle.store_memory.proofs.cache.MemCache.leave.Goals as goal

pub invariant_of-self : goal.invariant_of-self
invariant_of-self g c = sound-entries (has c.self.inside.alive) c.self.inside.flights c.remove.new.self c.self.inside.next c.in_default.ensures.unchanged c.self.invariant

pub returns-in_default : goal.returns-in_default
returns-in_default g c =
    rw (← c.self.view_is) (held-flying (bodies_of c.self.inside.bodies.entries) (flights_of (has c.self.inside.alive) c.remove.new.self.entries) (flights_of (has c.self.inside.alive) c.self.inside.flights.entries) c.self.inside.next (readings_of c.self.inside.readers.entries)
    (ap (flights_of (has c.self.inside.alive)) c.in_default.ensures.unchanged)
    ∙ left-none c.args.number (held (bodies_of c.self.inside.bodies.entries) (flights_of (has c.self.inside.alive) c.self.inside.flights.entries) c.self.inside.next (readings_of c.self.inside.readers.entries))
    (not-seen-at (has c.self.inside.alive) c.args.number c.self.inside.flights (sym c.in_default.ensures.value)))

pub invariant_of-self-2 : goal.invariant_of-self-2
invariant_of-self-2 g c =
    sound-landed (has c.self.inside.alive) (has c.take_out.new.alive) c.self.inside.flights c.remove.new.self c.into_flight-pieces.result.key c.args.number c.self.inside.next c.self.invariant c.take_out.ensures c.in-Some.ensures.entries
    (ap (option_map (λ (f : Flight). f.key)) (sym c.in-Some.ensures.value ∙ ap Some (sym c.into_flight-pieces.ensures))) c.in-Some.ensures.ordered

pub returns : goal.returns
returns g c =
    rw (← c.self.view_is) (left-some c.args.number (held (bodies_of c.self.inside.bodies.entries) (flights_of (has c.self.inside.alive) c.self.inside.flights.entries) c.self.inside.next (readings_of c.self.inside.readers.entries))
    (seen (has c.self.inside.alive) (c.args.number, c.into_flight-pieces.result)) (flights_of (has c.take_out.new.alive) c.remove.new.self.entries) (readings_of c.leave_bytes.new.readers.entries)
    (seen-at (has c.self.inside.alive) c.args.number c.into_flight-pieces.result c.self.inside.flights (sym c.in-Some.ensures.value ∙ ap Some (sym c.into_flight-pieces.ensures)))
    (ap (flights_of (has c.take_out.new.alive)) c.in-Some.ensures.entries ∙ seen-landed (has c.self.inside.alive) (has c.take_out.new.alive) c.into_flight-pieces.result.key c.args.number c.self.inside.flights.entries c.take_out.ensures (ascends c.self.inside.flights.entries c.self.invariant.ordered))
    c.leave_bytes.ensures)
