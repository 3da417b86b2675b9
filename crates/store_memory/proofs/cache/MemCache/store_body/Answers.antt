use Rattle.std.proofs.Common.{◌∙◌, ap, refl, nat_eq, cond}
use Rattle.std.specs.Prelude.{Some}
use Rattle.std.specs.Cmp.Lexicographic.{pointwise}
use Rattle.std.specs.HashMap as hash
use Rattle.store_memory.specs.Alive.{has}
use Rattle.store_memory.specs.Kept.{readings_of, weight_with}
use Rattle.store_memory.specs.declared.flight.Body.{Body}
use Rattle.store_memory.proofs.SoundLaws.{sound-landed}
use Rattle.store_memory.proofs.FinishLaws.{alive-flight, key-alive, finished-is}
use Rattle.store_memory.proofs.cache.MemCache.store_body.Goals as goal

pub join-requires : goal.join-requires
join-requires g c =
    let there = alive-flight (has c.self.inside.alive) c.args.number c.args.key c.self.inside.flights (rw (← c.self.view_is) at c.requires) in
    rw there.1 refl

pub take-flight-requires : goal.take-flight-requires
take-flight-requires g c =
    let there = alive-flight (has c.self.inside.alive) c.args.number c.args.key c.self.inside.flights (rw (← c.self.view_is) at c.requires) in
    rw there.1 refl

pub invariant_of-self-2 : goal.invariant_of-self-2
invariant_of-self-2 g c =
    sound-landed (has c.self.inside.alive) (has c.take_out.new.alive) c.self.inside.flights c.take-flight.new.flights c.args.key c.args.number c.self.inside.next
    c.self.invariant c.take_out.ensures c.take-flight.ensures.entries
    (key-alive (has c.self.inside.alive) c.args.number c.args.key c.self.inside.flights (rw (← c.self.view_is) at c.requires)) c.take-flight.ensures.ordered

pub returns-clause-ok : goal.returns-clause-ok
returns-clause-ok g c =
    rw (← c.self.view_is) (finished-is (has c.self.inside.alive) (has c.take_out.new.alive) c.args.number c.args.key c.self.inside.flights c.take-flight.new.flights c.take-flight.result c.take-flight.result.meta c.in-Ok.bytes c.weight-weight.result c.self.inside.next
    c.self.inside.bodies.entries c.put.new.bodies.entries (readings_of c.self.inside.readers.entries) (readings_of c.leave_share.new.readers.entries) c.self.invariant.ordered (rw (← c.self.view_is) at c.requires)
    (c.in-Ok.ensures c.take-flight.result c.take-flight.ensures.value) c.take-flight.ensures.value refl c.take-flight.ensures.entries c.take_out.ensures (c.leave_share.ensures c.in-Ok.bytes c.in-Ok-share_for.ensures)
    (λ k. c.put.ensures k ∙ ap (λ (x : Body). cond (pointwise nat_eq c.args.key k) (Some x) (hash.get (pointwise nat_eq) c.make_room.new.bodies k)) c.filled-kept.ensures ∙ ap (cond (pointwise nat_eq c.args.key k) (Some (record { number = c.args.number; meta = c.take-flight.result.meta; bytes = c.in-Ok.bytes }))) (c.make_room.ensures.same k)) (c.weight-weight.ensures ∙ ap (λ (b : Body). weight_with b.meta b.bytes) c.filled-kept.ensures))
