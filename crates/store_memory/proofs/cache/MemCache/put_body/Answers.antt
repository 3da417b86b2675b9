use Rattle.std.proofs.Common.{◌∙◌, ap, nat_eq, cond}
use Rattle.std.specs.Prelude.{Some}
use Rattle.std.specs.Cmp.Lexicographic.{pointwise}
use Rattle.std.specs.HashMap as hash
use Rattle.store_memory.specs.Alive.{has}
use Rattle.store_memory.specs.Kept.{flights_of, readings_of}
use Rattle.store_memory.specs.declared.flight.Body.{Body}
use Rattle.store_memory.proofs.WholeLaws.{stored-whole}
use Rattle.store_memory.proofs.cache.MemCache.put_body.Goals as goal

pub returns-clause-ok : goal.returns-clause-ok
returns-clause-ok g c =
    rw (← c.self.view_is) (stored-whole c.args.key c.args.body c.self.inside.bodies.entries c.put.new.bodies.entries (flights_of (has c.self.inside.alive) c.self.inside.flights.entries) c.self.inside.next
    (readings_of c.self.inside.readers.entries) (readings_of c.leave_share.new.readers.entries) (rw (← c.self.view_is) at c.requires.number) c.requires.written
    (λ k. c.put.ensures k ∙ ap (λ (x : Body). cond (pointwise nat_eq c.args.key k) (Some x) (hash.get (pointwise nat_eq) c.make_room.new.bodies k)) c.in-Ok-new.ensures ∙ ap (cond (pointwise nat_eq c.args.key k) (Some c.args.body)) (c.make_room.ensures.same k))
    (c.leave_share.ensures c.args.body.bytes c.in-Ok.ensures))
