use Rattle.std.proofs.Common.{refl, ap}
use Rattle.std.proofs.lemmas.List.{set-get_or}
use Rattle.lru_core.proofs.Summed.{undone, shard_was, shown_rows, was_rows}
use Rattle.lru_core.proofs.sharded.LruCore.insert_tail.Goals as goal

pub recount-requires-clause-changed : goal.recount-requires-clause-changed
recount-requires-clause-changed g c = undone c.insert_tail-added.new.self c.self.invariant c.place_of-place.ensures.within c.index_mut-unit.ensures.value c.insert_tail-added.ensures.bound c.of-before.ensures

pub returns-clause-after : goal.returns-clause-after
returns-clause-after g c e = rw (← c.place_of-place.ensures.value, shown_rows c.self.inside.units.items c.place_of-place.result c.insert_tail-added.new.self, c.insert_tail-added.ensures.after e, ← c.self.view_is, was_rows c.self.invariant c.place_of-place.ensures.within c.index_mut-unit.ensures.value) refl

pub returns-clause-same : goal.returns-clause-same
returns-clause-same g c n = rw (shown_rows c.self.inside.units.items c.place_of-place.result c.insert_tail-added.new.self, c.insert_tail-added.ensures.same n, ← c.self.view_is, ← was_rows c.self.invariant c.place_of-place.ensures.within c.index_mut-unit.ensures.value, set-get_or) refl

pub returns-clause-memory : goal.returns-clause-memory
returns-clause-memory g c back e =
    let f = shard_was c.args.self.now c.args.key c.self.invariant c.place_of-place.ensures.within c.index_mut-unit.ensures.value (ap (λ v. v.shards) c.self.view_is) c.place_of-place.ensures.value in
    rw f.0 (rw f.1 at (c.insert_tail-added.ensures.memory back e))

pub returns-clause-heavy : goal.returns-clause-heavy
returns-clause-heavy g c back e =
    let f = shard_was c.args.self.now c.args.key c.self.invariant c.place_of-place.ensures.within c.index_mut-unit.ensures.value (ap (λ v. v.shards) c.self.view_is) c.place_of-place.ensures.value in
    rw f.0 (rw f.1 at (c.insert_tail-added.ensures.heavy back e))

pub returns-clause-long : goal.returns-clause-long
returns-clause-long g c back e =
    let f = shard_was c.args.self.now c.args.key c.self.invariant c.place_of-place.ensures.within c.index_mut-unit.ensures.value (ap (λ v. v.shards) c.self.view_is) c.place_of-place.ensures.value in
    rw f.0 (rw f.1 at (c.insert_tail-added.ensures.long back e))
