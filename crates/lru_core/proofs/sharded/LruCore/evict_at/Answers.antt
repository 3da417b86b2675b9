use Rattle.std.proofs.Common.{length, ap, ◌∙◌, refl}
use Rattle.std.proofs.lemmas.List.{length_push}
use Rattle.lru_core.proofs.Summed.{undone, shown_rows, was_rows, one_less}
use Rattle.lru_core.proofs.sharded.LruCore.evict_at.Goals as goal

pub recount-requires-clause-changed : goal.recount-requires-clause-changed
recount-requires-clause-changed g c = undone c.evict-gone.new.self c.self.invariant c.requires c.index_mut-unit.ensures.value c.evict-gone.ensures.bound c.of-before.ensures

pub returns-clause-some : goal.returns-clause-some
returns-clause-some g c =
    let e = c.in_ok-data.ensures.some in
    let front = c.evict-gone.new.self.rows in
    let last = was_rows c.self.invariant c.requires c.index_mut-unit.ensures.value ∙ e.1 in
    ((front, e.0, rw (← c.self.view_is) last, rw (← c.self.view_is) (shown_rows c.self.inside.units.items c.args.place c.evict-gone.new.self)), rw (← c.self.view_is) refl, rw (← c.self.view_is) refl, rw (← c.self.view_is) refl, rw (← c.self.view_is) refl)

pub returns-clause-less : goal.returns-clause-less
returns-clause-less g c =
    let e = c.in_ok-data.ensures.some in
    rw (← c.self.view_is) (one_less c.evict-gone.new.self c.self.invariant c.requires c.index_mut-unit.ensures.value (ap length e.1 ∙ length_push c.evict-gone.new.self.rows _))
