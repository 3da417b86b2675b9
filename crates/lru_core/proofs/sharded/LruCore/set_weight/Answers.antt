use Rattle.std.proofs.Common.{refl}
use Rattle.lru_core.proofs.Summed.{undone, bound_kept, shown_rows, was_rows}
use Rattle.lru_core.proofs.sharded.LruCore.set_weight.Goals as goal

pub recount-requires-clause-changed : goal.recount-requires-clause-changed
recount-requires-clause-changed g c = undone c.set_weight-set.new.self c.self.invariant c.place_of-place.ensures.within c.index_mut-unit.ensures.value (bound_kept _ _ _ _ c.set_weight-set.ensures.after c.set_weight-set.ensures.err) c.of-before.ensures

pub returns-clause-after : goal.returns-clause-after
returns-clause-after g c = rw (← c.place_of-place.ensures.value, shown_rows c.self.inside.units.items c.place_of-place.result c.set_weight-set.new.self, c.in_ok-old.ensures.after, ← c.self.view_is, was_rows c.self.invariant c.place_of-place.ensures.within c.index_mut-unit.ensures.value) refl
