use Rattle.std.proofs.Common.{◌∙◌}
use Rattle.store_memory.specs.Alive.{has}
use Rattle.store_memory.specs.Kept.{flights_of, bodies_of, readings_of, written}
use Rattle.store_memory.proofs.FlightLaws.{seen-unchanged}
use Rattle.store_memory.proofs.FirstLaws.{ended-seen}
use Rattle.store_memory.proofs.HeldLaws.{held-flying, held-written}
use Rattle.store_memory.proofs.SoundLaws.{sound-changed}
use Rattle.store_memory.proofs.cache.MemCache.append.Goals as goal

pub invariant_of-self : goal.invariant_of-self
invariant_of-self g c = sound-changed (has c.self.inside.alive) c.args.number (λ f. f) c.self.inside.flights c.append.new.flights c.self.inside.next c.in-Err.ensures.err c.self.invariant

pub returns-in-Err-clause-err : goal.returns-in-Err-clause-err
returns-in-Err-clause-err g c =
    held-flying (bodies_of c.self.inside.bodies.entries) (flights_of (has c.self.inside.alive) c.append.new.flights.entries) (flights_of (has c.self.inside.alive) c.self.inside.flights.entries) c.self.inside.next (readings_of c.self.inside.readers.entries)
    (seen-unchanged c.args.number c.self.inside.flights c.append.new.flights c.in-Err.ensures.err (has c.self.inside.alive)) ∙ c.self.view_is

pub returns-in-Err-clause-answer : goal.returns-in-Err-clause-answer
returns-in-Err-clause-answer g c =
    rw (← c.self.view_is) (rw (ended-seen (has c.self.inside.alive) c.args.number c.self.inside.flights.entries) c.in-Err.ensures.answer)

pub invariant_of-self-2 : goal.invariant_of-self-2
invariant_of-self-2 g c = sound-changed (has c.self.inside.alive) c.args.number (written c.args.more c.args.eof) c.self.inside.flights c.append.new.flights c.self.inside.next c.in_default.ensures.ok c.self.invariant

pub returns-clause-answer : goal.returns-clause-answer
returns-clause-answer g c =
    rw (← c.self.view_is) (rw (ended-seen (has c.self.inside.alive) c.args.number c.self.inside.flights.entries) c.in_default.ensures.answer)

pub returns-clause-ok : goal.returns-clause-ok
returns-clause-ok g c =
    rw (← c.self.view_is) (held-written (bodies_of c.self.inside.bodies.entries) (flights_of (has c.self.inside.alive) c.append.new.flights.entries) (flights_of (has c.self.inside.alive) c.self.inside.flights.entries) c.self.inside.next
    (readings_of c.self.inside.readers.entries) c.args.number c.args.more c.args.eof (c.in_default.ensures.ok.seen (has c.self.inside.alive)))
