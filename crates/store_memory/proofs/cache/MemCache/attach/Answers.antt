use Rattle.std.proofs.Common.{refl, ap, ◌∙◌}
use Rattle.std.specs.Prelude.{List, ℕ}
use Rattle.store_memory.specs.Alive.{has}
use Rattle.store_memory.specs.Kept.{flights_of, bodies_of, readings_of}
use Rattle.store_memory.specs.declared.flight.Readers.{Readers}
use Rattle.store_memory.proofs.HeldLaws.{held}
use Rattle.store_memory.proofs.ReadLaws.{reading-joined}
use Rattle.store_memory.proofs.cache.MemCache.attach.Goals as goal

pub returns-in-Err-clause-err : goal.returns-in-Err-clause-err
returns-in-Err-clause-err g c =
    ap (λ (es : List (ℕ × Readers)). held (bodies_of c.self.inside.bodies.entries) (flights_of (has c.self.inside.alive) c.self.inside.flights.entries) c.self.inside.next (readings_of es)) c.in-Err.ensures.err ∙ c.self.view_is

pub returns-clause-ok : goal.returns-clause-ok
returns-clause-ok g c =
    rw (← c.self.view_is) (record { store = refl; next = refl; readings = reading-joined c.args.number c.self.inside.readers c.attach.new.readers c.in_default.ensures.ok })
