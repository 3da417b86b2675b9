use borrow.Rule.Slice.AtParam.{field_room}
use denote.Param.{layout, param, number}
use denote.Builtin.{unit}
use mir.Syntax.{Ty}
use prog.Memory.{size}
use Rattle.cache_evict.specs.contracts.lru.Manager.{the_row as manager_row}
use Rattle.cache_lock.specs.contracts.lock.CacheLock.{the_row as lock_row}
use Rattle.request_store.specs.contracts.parts.CacheParts.{the_row as parts_row}
use Rattle.request_store.specs.contracts.policy.NoPolicy.{the_row as policy_row}
use Rattle.store_memory.specs.contracts.cache.MemCache.{the_row as store_row}
use Rattle.std.proofs.Common.{◌≡◌, ◌<◌, ◌^◌, refl, None, rules}
use Rattle.tier_single.specs.contracts.tier.Tier.{the_row}
use Rattle.request_store.specs.Admissions.{Cache, cache_of}
use Rattle.cache_store.specs.StoreState.{StoreState}
use Rattle.tier_model.specs.State.{State}
use Rattle.tier_requests.specs.Shelves.{shelf_of}
use Rattle.tier_single.specs.States.{state_by}
use Rattle.tier_single.proofs.PastLaws.{HasAPast-steps}
use Rattle.tier_single.proofs.PutSteps.{Steps-unread}
use Rattle.tier_single.proofs.TakenLaws.{put-taken}
use Rattle.tier_single.proofs.tier.Tier.put_judged.Goals as goal

pub cache_put-came-requires-room-E-EvictionManager : goal.cache_put-came-requires-room-E-EvictionManager
cache_put-came-requires-room-E-EvictionManager g c = λ κs below.
    let fits : size (layout (the_row (param 0 (number g.row.N)) (param 1 g.row.S) (param 2 g.row.S-Hasher) g.S.BuildHasher g.S.Hasher.Hasher)) < 2 ^ 63 = search rules in
    let parts : Ty = layout (parts_row (store_row (param 1 g.row.S) (param 2 g.row.S-Hasher) g.S.BuildHasher g.S.Hasher.Hasher) (manager_row (param 0 (number g.row.N)) (param 1 g.row.S) (param 2 g.row.S-Hasher) g.S.BuildHasher g.S.Hasher.Hasher) unit
    (lock_row (param 1 g.row.S) (param 2 g.row.S-Hasher) g.S.BuildHasher g.S.Hasher.Hasher) policy_row) in
    let parts_fit : size parts < 2 ^ 63 = field_room (layout (the_row (param 0 (number g.row.N)) (param 1 g.row.S) (param 2 g.row.S-Hasher) g.S.BuildHasher g.S.Hasher.Hasher)) 2 _ _ refl fits in
    field_room parts 1 _ _ refl parts_fit

pub told_of-requires : goal.told_of-requires
told_of-requires g c =
    let s : State = state_by c.self.inside.parts.manager c.self.inside.wait (shelf_of c.self.inside.parts.store) c.self.inside.parts.lock c.self.inside.requests c.self.inside.found c.self.inside.absent in
    let before : Cache StoreState = cache_of c.self.inside.parts.store c.self.inside.parts.manager (g.R.Rng.stream c.args.rng.now) in
    let after : Cache StoreState = cache_of c.cache_put-came.new.parts.store c.cache_put-came.new.parts.manager (g.R.Rng.stream c.cache_put-came.new.rng) in
    let taken = put-taken g.row.N s c.args.moment c.args.key.now c.args.pieces.now before c.self.invariant.0 c.self.invariant.1 c.cache_put-came.result after
    (rw (c.new-put.ensures, c.in-Ok.ensures, c.as_slice.ensures) at c.cache_put-came.ensures.put) in
    taken.tellable

pub invariant_of-self : goal.invariant_of-self
invariant_of-self g c =
    let s : State = state_by c.self.inside.parts.manager c.self.inside.wait (shelf_of c.self.inside.parts.store) c.self.inside.parts.lock c.self.inside.requests c.self.inside.found c.self.inside.absent in
    let before : Cache StoreState = cache_of c.self.inside.parts.store c.self.inside.parts.manager (g.R.Rng.stream c.args.rng.now) in
    let after : Cache StoreState = cache_of c.cache_put-came.new.parts.store c.cache_put-came.new.parts.manager (g.R.Rng.stream c.cache_put-came.new.rng) in
    let taken = put-taken g.row.N s c.args.moment c.args.key.now c.args.pieces.now before c.self.invariant.0 c.self.invariant.1 c.cache_put-came.result after
    (rw (c.new-put.ensures, c.in-Ok.ensures, c.as_slice.ensures) at c.cache_put-came.ensures.put) in
    let lock : c.cache_put-came.new.parts.lock ≡ c.self.inside.parts.lock = λ i. (c.cache_put-came.ensures.parts i).lock in
    (taken.sharded, taken.under, rw lock (HasAPast-steps c.self.inside.watermark c.self.inside.age s _ _ _ _ _ c.self.invariant.2 (taken.takes c.told_of.result c.told_of.ensures)))

pub returns-in_default : goal.returns-in_default
returns-in_default g c = rw c.out_of_memory.ensures (Steps-unread c.args.self.now _ c.args.moment c.args.key.now c.args.pieces.now None)

pub returns : goal.returns
returns g c =
    let s : State = state_by c.self.inside.parts.manager c.self.inside.wait (shelf_of c.self.inside.parts.store) c.self.inside.parts.lock c.self.inside.requests c.self.inside.found c.self.inside.absent in
    let before : Cache StoreState = cache_of c.self.inside.parts.store c.self.inside.parts.manager (g.R.Rng.stream c.args.rng.now) in
    let after : Cache StoreState = cache_of c.cache_put-came.new.parts.store c.cache_put-came.new.parts.manager (g.R.Rng.stream c.cache_put-came.new.rng) in
    let taken = put-taken g.row.N s c.args.moment c.args.key.now c.args.pieces.now before c.self.invariant.0 c.self.invariant.1 c.cache_put-came.result after
    (rw (c.new-put.ensures, c.in-Ok.ensures, c.as_slice.ensures) at c.cache_put-came.ensures.put) in
    let lock : c.cache_put-came.new.parts.lock ≡ c.self.inside.parts.lock = λ i. (c.cache_put-came.ensures.parts i).lock in
    rw (← c.self.view_is, lock) (taken.takes c.told_of.result c.told_of.ensures)
