use Rattle.std.proofs.Common.{refl, sym, ◌∙◌, ap}
use Rattle.std.specs.Prelude.{Some, None}
use Rattle.store_memory.specs.Alive.{has}
use Rattle.cache_store.specs.Readers.{left_at}
use Rattle.store_memory.specs.Kept.{bytes_in, readings_of}
use Rattle.store_memory.proofs.ReadLaws.{readable-flight, readable-left}
use Rattle.store_memory.proofs.cache.MemCache.read.Goals as goal

pub returns-in-Some-clause-answer : goal.returns-in-Some-clause-answer
returns-in-Some-clause-answer g c =
    rw (← c.self.view_is, readable-flight (has c.self.inside.alive) c.args.number c.flight-flight.result.now c.self.inside.flights (left_at c.args.number (readings_of c.self.inside.readers.entries)) (sym c.in-Some.ensures.value ∙ ap Some (sym c.flight-flight.ensures))) c.read_from.ensures.answer

pub returns-in-Some-left_of-clause-answer : goal.returns-in-Some-left_of-clause-answer
returns-in-Some-left_of-clause-answer g c =
    rw (
      ← c.self.view_is,
      readable-left (has c.self.inside.alive) c.args.number c.self.inside.flights (left_at c.args.number (readings_of c.self.inside.readers.entries)) (Some (bytes_in c.in-Some-left_of.buffer.now))
          (sym c.in_default.ensures.value) (sym c.in-Some-left_of.ensures),
    ) c.read_from-in-Some-left_of.ensures.answer

pub returns-in-None-clause-answer : goal.returns-in-None-clause-answer
returns-in-None-clause-answer g c =
    rw (← c.self.view_is, readable-left (has c.self.inside.alive) c.args.number c.self.inside.flights (left_at c.args.number (readings_of c.self.inside.readers.entries)) None (sym c.in_default.ensures.value) (sym c.in-None.ensures)) refl
