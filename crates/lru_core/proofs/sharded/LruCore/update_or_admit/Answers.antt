use Rattle.std.proofs.lemmas.List.{set-get_or}
use Rattle.std.proofs.Common.{◌≡◌, ◌%◌, set, refl, ap, ◌∙◌}
use Rattle.lru_core.specs.Cores.{rows_at}
use Rattle.lru_core.proofs.Summed.{undone, shown_rows, was_rows, was_bound, now_rows, lists}
use Rattle.lru_core.proofs.sharded.LruCore.update_or_admit.Goals as goal
use Rattle.lru_core.proofs.sharded.LruCore.update_or_admit.Goals.{In-Ok, In-Err}

pub recount-requires-clause-changed : goal.recount-requires-clause-changed
recount-requires-clause-changed g c = undone c.update_or_admit-added.new.self c.self.invariant c.place_of-place.ensures.within c.index_mut-unit.ensures.value c.update_or_admit-added.ensures.bound c.of-before.ensures

old_rows : (g : _) (c : In-Ok g) → rows_at c.args.self.now.shards (c.args.key % g.row.N) ≡ c.index_mut-unit.result.now.rows
old_rows g c = rw (← c.self.view_is, ← c.place_of-place.ensures.value) (was_rows c.self.invariant c.place_of-place.ensures.within c.index_mut-unit.ensures.value)

new_rows : (g : _) (c : In-Ok g) → rows_at (lists (set c.self.inside.units.items c.place_of-place.result c.update_or_admit-added.new.self)) (c.args.key % g.row.N) ≡ c.update_or_admit-added.new.self.rows
new_rows g c = rw (← c.place_of-place.ensures.value) (now_rows c.update_or_admit-added.new.self c.self.invariant c.place_of-place.ensures.within)

old_rows_err : (g : _) (c : In-Err g) → rows_at c.args.self.now.shards (c.args.key % g.row.N) ≡ c.index_mut-unit.result.now.rows
old_rows_err g c = rw (← c.self.view_is, ← c.place_of-place.ensures.value) (was_rows c.self.invariant c.place_of-place.ensures.within c.index_mut-unit.ensures.value)

new_rows_err : (g : _) (c : In-Err g) → rows_at (lists (set c.self.inside.units.items c.place_of-place.result c.update_or_admit-added.new.self)) (c.args.key % g.row.N) ≡ c.update_or_admit-added.new.self.rows
new_rows_err g c = rw (← c.place_of-place.ensures.value) (now_rows c.update_or_admit-added.new.self c.self.invariant c.place_of-place.ensures.within)

pub returns-clause-elsewhere : goal.returns-clause-elsewhere
returns-clause-elsewhere g c = rw (← c.place_of-place.ensures.value, now_rows c.update_or_admit-added.new.self c.self.invariant c.place_of-place.ensures.within, shown_rows c.self.inside.units.items c.place_of-place.result c.update_or_admit-added.new.self, ← c.self.view_is) refl

pub returns-clause-updated : goal.returns-clause-updated
returns-clause-updated g c n =
    let p = c.in-Ok.ensures.updated (rw (old_rows g c) at n) in
    (p.0, c.in-Ok.now.1, p.1, rw (old_rows g c, new_rows g c) p.2)

pub returns-clause-new : goal.returns-clause-new
returns-clause-new g c n = c.in-Ok.ensures.new (rw (old_rows g c) at n)

pub returns-clause-added : goal.returns-clause-added
returns-clause-added g c n =
    let p = c.in-Ok.ensures.admitted (rw (old_rows g c) at n) in
    (p.0, p.1, p.2, rw (old_rows g c, new_rows g c) p.4)

pub returns-in-Err-clause-elsewhere : goal.returns-in-Err-clause-elsewhere
returns-in-Err-clause-elsewhere g c = rw (← c.place_of-place.ensures.value, now_rows c.update_or_admit-added.new.self c.self.invariant c.place_of-place.ensures.within, shown_rows c.self.inside.units.items c.place_of-place.result c.update_or_admit-added.new.self, ← c.self.view_is) refl

pub returns-in-Err-clause-update_refused : goal.returns-in-Err-clause-update_refused
returns-in-Err-clause-update_refused g c n =
    let p = c.in-Err.ensures.update_refused (rw (old_rows_err g c) at n) in
    (p.0, rw (old_rows_err g c, new_rows_err g c, ← was_bound c.self.invariant c.place_of-place.ensures.within c.index_mut-unit.ensures.value) p.1)

pub returns-in-Err-clause-same : goal.returns-in-Err-clause-same
returns-in-Err-clause-same g c n =
    let p = c.in-Err.ensures.same (rw (old_rows_err g c) at n) in
    let same : lists (set c.self.inside.units.items c.place_of-place.result c.update_or_admit-added.new.self) ≡ lists c.self.inside.units.items =
    ap lists (ap (set c.self.inside.units.items c.place_of-place.result) (p ∙ c.index_mut-unit.ensures.value) ∙ set-get_or _ _ _) in
    rw same c.self.view_is

pub returns-in-Err-clause-refused : goal.returns-in-Err-clause-refused
returns-in-Err-clause-refused g c n =
    let p = c.in-Err.ensures.refused (rw (old_rows_err g c) at n) in
    (p.0, p.1, p.2, rw (old_rows_err g c, ← was_bound c.self.invariant c.place_of-place.ensures.within c.index_mut-unit.ensures.value) p.3)
