use Rattle.std.proofs.Common.{◌+◌, refl, ◌∙◌, ap}
use Rattle.store_memory.specs.Alive.{has}
use Rattle.store_memory.specs.Kept.{flights_of, bodies_of, readings_of}
use Rattle.store_memory.proofs.HeldLaws.{held-flying, held-next}
use Rattle.store_memory.proofs.SeenLaws.{seen-alike, seen-push}
use Rattle.store_memory.proofs.StoreLaws.{fresh-number}
use Rattle.store_memory.proofs.SoundLaws.{sound-alike, sound-back, sound-entries, sound-begun}
use Rattle.store_memory.proofs.cache.MemCache.begin.Goals as goal

pub invariant_of-self : goal.invariant_of-self
invariant_of-self g c = sound-alike (has c.self.inside.alive) (has c.add.new.alive) c.self.inside.flights c.self.inside.next c.in-Err.ensures.err c.self.invariant

pub returns-in-Err-clause-err : goal.returns-in-Err-clause-err
returns-in-Err-clause-err g c =
    held-flying (bodies_of c.self.inside.bodies.entries) (flights_of (has c.add.new.alive) c.self.inside.flights.entries) (flights_of (has c.self.inside.alive) c.self.inside.flights.entries) c.self.inside.next (readings_of c.self.inside.readers.entries)
    (seen-alike (has c.self.inside.alive) (has c.add.new.alive) c.self.inside.flights.entries c.in-Err.ensures.err) ∙ c.self.view_is

pub invariant_of-self-in-Err-put : goal.invariant_of-self-in-Err-put
invariant_of-self-in-Err-put g c =
    sound-entries (has c.take_out.new.alive) c.self.inside.flights c.put.new.flights c.self.inside.next c.in-Err-put.ensures.err
    (sound-alike (has c.self.inside.alive) (has c.take_out.new.alive) c.self.inside.flights c.self.inside.next
    (sound-back (has c.self.inside.alive) (has c.add.new.alive) (has c.take_out.new.alive) c.self.inside.flights c.args.key c.self.inside.next c.self.invariant c.in_default.ensures.ok c.take_out.ensures) c.self.invariant)

pub returns-in-Err-put-clause-err : goal.returns-in-Err-put-clause-err
returns-in-Err-put-clause-err g c =
    held-flying (bodies_of c.self.inside.bodies.entries) (flights_of (has c.take_out.new.alive) c.put.new.flights.entries) (flights_of (has c.self.inside.alive) c.self.inside.flights.entries) c.self.inside.next (readings_of c.self.inside.readers.entries)
    (ap (flights_of (has c.take_out.new.alive)) c.in-Err-put.ensures.err
    ∙ seen-alike (has c.self.inside.alive) (has c.take_out.new.alive) c.self.inside.flights.entries
    (sound-back (has c.self.inside.alive) (has c.add.new.alive) (has c.take_out.new.alive) c.self.inside.flights c.args.key c.self.inside.next c.self.invariant c.in_default.ensures.ok c.take_out.ensures)) ∙ c.self.view_is

pub invariant_of-self-2 : goal.invariant_of-self-2
invariant_of-self-2 g c =
    sound-begun (has c.self.inside.alive) (has c.add.new.alive) c.self.inside.flights c.put.new.flights c.args.key c.self.inside.next _ c.self.invariant c.in_default.ensures.ok c.in_default-put.ensures.ok.0 refl c.in_default-put.ensures.ok.1

pub returns-clause-begun : goal.returns-clause-begun
returns-clause-begun g c =
    rw (← c.self.view_is) (held-next (bodies_of c.self.inside.bodies.entries) _ _ (c.self.inside.next + 1) (c.self.inside.next + 1) (readings_of c.self.inside.readers.entries)
    (ap (flights_of (has c.add.new.alive)) c.in_default-put.ensures.ok.0
    ∙ seen-push (has c.self.inside.alive) (has c.add.new.alive) c.args.key c.self.inside.next c.args.meta c.new.result c.self.inside.flights.entries c.in_default.ensures.ok c.self.invariant.below c.new.ensures)
    refl)

pub returns-clause-fresh : goal.returns-clause-fresh
returns-clause-fresh g c = rw (← c.self.view_is) (fresh-number (has c.self.inside.alive) c.self.inside.next c.self.inside.flights.entries c.self.invariant.below)
