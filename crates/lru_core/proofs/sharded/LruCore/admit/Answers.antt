use Rattle.std.proofs.Common.{rules, refl, ap}
use Rattle.lru_core.proofs.Summed.{undone, bound_kept, shard_was, shown_rows, was_rows}
use Rattle.lru_core.proofs.sharded.LruCore.admit.Goals as goal

pub recount-requires-clause-changed : goal.recount-requires-clause-changed
recount-requires-clause-changed g c = undone c.admit-admitted.new.self c.self.invariant c.place_of-place.ensures.within c.index_mut-unit.ensures.value (bound_kept _ _ _ _ c.admit-admitted.ensures.after c.admit-admitted.ensures.err) c.of-before.ensures

pub returns-clause-after : goal.returns-clause-after
returns-clause-after g c = rw (← c.place_of-place.ensures.value, shown_rows c.self.inside.units.items c.place_of-place.result c.admit-admitted.new.self, c.in_ok-_old.ensures.after, ← c.self.view_is, was_rows c.self.invariant c.place_of-place.ensures.within c.index_mut-unit.ensures.value) refl

pub returns-in_err-_old-clause-long : goal.returns-in_err-_old-clause-long
returns-in_err-_old-clause-long g c back e =
    let f = shard_was c.args.self.now c.args.key c.self.invariant c.place_of-place.ensures.within c.index_mut-unit.ensures.value (ap (λ v. v.shards) c.self.view_is) c.place_of-place.ensures.value in
    rw f.0 (rw f.1 at (c.in_err-_old.ensures.long back (search rules)))

pub returns-in_err-_old-clause-memory : goal.returns-in_err-_old-clause-memory
returns-in_err-_old-clause-memory g c back e =
    let f = shard_was c.args.self.now c.args.key c.self.invariant c.place_of-place.ensures.within c.index_mut-unit.ensures.value (ap (λ v. v.shards) c.self.view_is) c.place_of-place.ensures.value in
    rw f.0 (rw f.1 at (c.in_err-_old.ensures.memory back (search rules)))

pub returns-in_err-_old-clause-heavy : goal.returns-in_err-_old-clause-heavy
returns-in_err-_old-clause-heavy g c back e =
    let f = shard_was c.args.self.now c.args.key c.self.invariant c.place_of-place.ensures.within c.index_mut-unit.ensures.value (ap (λ v. v.shards) c.self.view_is) c.place_of-place.ensures.value in
    rw f.0 (rw f.1 at (c.in_err-_old.ensures.heavy back (search rules)))
