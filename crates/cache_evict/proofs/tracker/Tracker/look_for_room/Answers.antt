use Rattle.std.proofs.Common.{◌∙◌, ap, ◌%◌, ℕ}
use Rattle.lru_numbers.specs.Names.{name_at}
use Rattle.cache_evict.proofs.RefusalLaws.{ok_then, err_then}
use Rattle.cache_evict.proofs.RoomLaws.{roomy, roomless}
use Rattle.cache_evict.proofs.tracker.Tracker.look_for_room.Goals as goal

pub returns-clause-room : goal.returns-clause-room
returns-clause-room g c e leads none =
    rw (← c.self.view_is) (ok_then c.look_for_room.result _ _ (roomy g.row.N (name_at c.self.inside.numbers) c.self.inside.core e c.args.weight c.self.inside.evicted_size c.self.inside.evicted_items c.self.invariant (rw (← c.self.view_is) at none) _
    (ap (λ (m : ℕ). c.args.hash % m) c.shards.ensures.value ∙ leads))
    c.look_for_room.ensures.room)

pub returns-clause-why : goal.returns-clause-why
returns-clause-why g c e leads none =
    rw (← c.self.view_is) (err_then c.look_for_room.result _ _ (roomless g.row.N (name_at c.self.inside.numbers) c.self.inside.core e c.args.weight c.self.inside.evicted_size c.self.inside.evicted_items c.self.invariant (rw (← c.self.view_is) at none) _
    (ap (λ (m : ℕ). c.args.hash % m) c.shards.ensures.value ∙ leads))
    c.look_for_room.ensures.why)
