use Rattle.std.proofs.Common.{ap, refl}
use Rattle.lru_core.proofs.Summed.{undone, shown_rows, was_rows}
use Rattle.lru_core.proofs.sharded.LruCore.remove.Goals as goal

pub recount-requires-clause-changed : goal.recount-requires-clause-changed
recount-requires-clause-changed g c = undone c.remove-gone.new.self c.self.invariant c.place_of-place.ensures.within c.index_mut-unit.ensures.value (ap (λ u. u.bound) c.remove-gone.ensures.after) c.of-before.ensures

pub returns-clause-after : goal.returns-clause-after
returns-clause-after g c = rw (← c.place_of-place.ensures.value, shown_rows c.self.inside.units.items c.place_of-place.result c.remove-gone.new.self, c.remove-gone.ensures.after, ← c.self.view_is, was_rows c.self.invariant c.place_of-place.ensures.within c.index_mut-unit.ensures.value) refl
