use Rattle.std.proofs.Common.{rules, ◌≡◌, ℕ, ◌%◌, List, ◌∷◌, set, refl, ap, ◌∙◌}
use Rattle.lru_core.specs.declared.rows.Row.{Row}
use Rattle.lru_core.specs.Rows.{a_row}
use Rattle.lru_core.specs.Cores.{Core, rows_at}
use Rattle.lru_core.proofs.Summed.{undone, shard_was, shown_rows, was_rows, rows_after}
use Rattle.lru_core.proofs.sharded.LruCore.increment_weight.Goals as goal
use Rattle.lru_core.proofs.sharded.LruCore.increment_weight.Goals.{In_ok-now}

pub recount-requires-clause-changed : goal.recount-requires-clause-changed
recount-requires-clause-changed g c = undone c.increment_weight-added.new.self c.self.invariant c.place_of-place.ensures.within c.index_mut-unit.ensures.value c.increment_weight-added.ensures.bound c.of-before.ensures

old_rows : (g : _) (c : In_ok-now g) → rows_at c.args.self.now.shards (c.args.key % g.row.N) ≡ c.index_mut-unit.result.now.rows
old_rows g c = rw (← c.self.view_is, ← c.place_of-place.ensures.value) (was_rows c.self.invariant c.place_of-place.ensures.within c.index_mut-unit.ensures.value)

pub returns-clause-moved : goal.returns-clause-moved
returns-clause-moved g c n =
    rw (← c.place_of-place.ensures.value, shown_rows c.self.inside.units.items c.place_of-place.result c.increment_weight-added.new.self, c.in_ok-now.ensures.moved (rw (old_rows g c) at n), ← c.self.view_is, was_rows c.self.invariant c.place_of-place.ensures.within c.index_mut-unit.ensures.value) refl

pub returns-clause-admitted : goal.returns-clause-admitted
returns-clause-admitted g c n =
    let i : ℕ = c.args.key % g.row.N in
    let p = c.in_ok-now.ensures.admitted (rw (old_rows g c) at n) in
    let f : List (Row g.row.T.Denot) → List (Row g.row.T.Denot) = λ rows. a_row c.args.key p.0 c.in_ok-now.now.1 ∷ rows in
    let r = was_rows c.self.invariant c.place_of-place.ensures.within c.index_mut-unit.ensures.value in
    let s = rows_after c.self.inside.units.items c.place_of-place.result i c.index_mut-unit.result.now c.increment_weight-added.new.self f c.place_of-place.ensures.value r (ap (λ u. u.rows) p.2) in
    let t = ap (λ s. record { shards = s; limit = c.self.inside.weight_limit; watermark = c.self.inside.len_watermark; evicted_weight = c.self.inside.evicted_weight; evicted_len = c.self.inside.evicted_len }) s in
    (p.0, p.1, t ∙ ap {A = Core g.row.T.Denot} {B = Core g.row.T.Denot} (λ v. record v { shards = set v.shards i (f (rows_at v.shards i)) }) c.self.view_is)

pub returns-in_err-now-clause-long : goal.returns-in_err-now-clause-long
returns-in_err-now-clause-long g c back e =
    let f = shard_was c.args.self.now c.args.key c.self.invariant c.place_of-place.ensures.within c.index_mut-unit.ensures.value (ap (λ v. v.shards) c.self.view_is) c.place_of-place.ensures.value in
    rw f.0 (rw f.1 at (c.in_err-now.ensures.long back (search rules)))

pub returns-clause-raised : goal.returns-clause-raised
returns-clause-raised g c n = rw (old_rows g c) (ap (λ p. p.1) (c.in_ok-now.ensures.raised (rw (old_rows g c) at n)))

pub returns-in_err-now-clause-memory : goal.returns-in_err-now-clause-memory
returns-in_err-now-clause-memory g c back e =
    let f = shard_was c.args.self.now c.args.key c.self.invariant c.place_of-place.ensures.within c.index_mut-unit.ensures.value (ap (λ v. v.shards) c.self.view_is) c.place_of-place.ensures.value in
    rw f.0 (rw f.1 at (c.in_err-now.ensures.memory back (search rules)))

pub returns-in_err-now-clause-heavy : goal.returns-in_err-now-clause-heavy
returns-in_err-now-clause-heavy g c back e =
    let f = shard_was c.args.self.now c.args.key c.self.invariant c.place_of-place.ensures.within c.index_mut-unit.ensures.value (ap (λ v. v.shards) c.self.view_is) c.place_of-place.ensures.value in
    rw f.0 (rw f.1 at (c.in_err-now.ensures.heavy back (search rules)))
