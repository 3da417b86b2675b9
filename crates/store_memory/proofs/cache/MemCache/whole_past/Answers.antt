use Rattle.std.proofs.Common.{sym, ◌∙◌, ap}
use Rattle.std.specs.Prelude.{Some}
use Rattle.store_memory.specs.Alive.{has}
use Rattle.store_memory.specs.Kept.{bodies_of, readings_of}
use Rattle.store_memory.proofs.EndLaws.{flying-ended, flying-more, flying-on, landed-told}
use Rattle.store_memory.proofs.cache.MemCache.whole_past.Goals as goal
use Rattle.store_memory.proofs.cache.MemCache.whole_past.Goals.{else-flight-via-then-flight+else-place-len, else-flight-via-else-flight}

pub returns-in_default : goal.returns-in_default
returns-in_default g c =
    rw (← c.self.view_is) (c.whole_left.ensures
    ∙ sym (landed-told (has c.self.inside.alive) c.args.number c.args.place c.self.inside.next c.self.inside.flights (bodies_of c.self.inside.bodies.entries) (readings_of c.self.inside.readers.entries) (sym c.in_default.ensures.value)))

pub returns-then-place-len : goal.returns-then-place-len
returns-then-place-len g c =
    rw (← c.self.view_is) (sym (flying-ended (has c.self.inside.alive) c.args.number c.args.place c.self.inside.next c.flight-flight.result.now c.self.inside.flights (bodies_of c.self.inside.bodies.entries) (readings_of c.self.inside.readers.entries)
    (sym c.in-Some.ensures.value ∙ ap Some (sym c.flight-flight.ensures)) c.if-flight.true (rw c.len.ensures at c.if-place-len.true)))

pub returns-else-flight : goal.returns-else-flight
returns-else-flight g c = rw (← c.self.view_is) (sym (elim c.else-flight.branch [
  | else-flight-via-then-flight+else-place-len w ↦
      flying-more (has c.self.inside.alive) c.args.number c.args.place c.self.inside.next c.flight-flight.result.now c.self.inside.flights (bodies_of c.self.inside.bodies.entries) (readings_of c.self.inside.readers.entries)
      (sym c.in-Some.ensures.value ∙ ap Some (sym c.flight-flight.ensures)) (rw w.len.ensures at w.if-place-len.false)
  | else-flight-via-else-flight w ↦
      flying-on (has c.self.inside.alive) c.args.number c.args.place c.self.inside.next c.flight-flight.result.now c.self.inside.flights (bodies_of c.self.inside.bodies.entries) (readings_of c.self.inside.readers.entries)
      (sym c.in-Some.ensures.value ∙ ap Some (sym c.flight-flight.ensures)) w.if-flight.false
]))
