use borrow.Rule.Slice.AtParam.{field_room}
use denote.Param.{layout, param, number}
use denote.Builtin.{unit}
use mir.Syntax.{Ty}
use prog.Memory.{size}
use Rattle.cache_evict.specs.contracts.lru.Manager.{the_row as manager_row}
use Rattle.cache_lock.specs.contracts.lock.CacheLock.{the_row as lock_row}
use Rattle.request_store.specs.contracts.parts.CacheParts.{the_row as parts_row}
use Rattle.request_store.specs.contracts.policy.NoPolicy.{the_row as policy_row}
use Rattle.store_memory.specs.contracts.cache.MemCache.{the_row as store_row}
use Rattle.std.proofs.Common.{◌<◌, ◌^◌, refl, rules}
use Rattle.tier_single.specs.contracts.tier.Tier.{the_row}
use Rattle.std.specs.Prelude.{pos}
use Rattle.cache_words.specs.Time.{MomentValue}
use Rattle.request_store.specs.Admissions.{Cache, cache_of}
use Rattle.cache_store.specs.StoreState.{StoreState}
use Rattle.tier_model.specs.State.{State}
use Rattle.tier_requests.specs.Shelves.{shelf_of}
use Rattle.tier_single.specs.States.{state_by}
use Rattle.tier_single.proofs.FinishLaws.{finish-taken}
use Rattle.tier_single.proofs.FlightLaws.{flies-for}
use Rattle.tier_single.proofs.PastLaws.{HasAPast-steps}
use Rattle.tier_single.proofs.tier.Tier.finish.Goals as goal

-- some moment
at_any : MomentValue
at_any = record { seconds = pos 0; nanoseconds = 0 }

pub finish-requires-room-E-EvictionManager : goal.finish-requires-room-E-EvictionManager
finish-requires-room-E-EvictionManager g c = λ κs below.
    let fits : size (layout (the_row (param 0 (number g.row.N)) (param 1 g.row.S) (param 2 g.row.S-Hasher) g.S.BuildHasher g.S.Hasher.Hasher)) < 2 ^ 63 = search rules in
    let parts : Ty = layout (parts_row (store_row (param 1 g.row.S) (param 2 g.row.S-Hasher) g.S.BuildHasher g.S.Hasher.Hasher) (manager_row (param 0 (number g.row.N)) (param 1 g.row.S) (param 2 g.row.S-Hasher) g.S.BuildHasher g.S.Hasher.Hasher) unit
    (lock_row (param 1 g.row.S) (param 2 g.row.S-Hasher) g.S.BuildHasher g.S.Hasher.Hasher) policy_row) in
    let parts_fit : size parts < 2 ^ 63 = field_room (layout (the_row (param 0 (number g.row.N)) (param 1 g.row.S) (param 2 g.row.S-Hasher) g.S.BuildHasher g.S.Hasher.Hasher)) 2 _ _ refl fits in
    field_room parts 1 _ _ refl parts_fit

pub invariant_of-self : goal.invariant_of-self
invariant_of-self g c =
    let s : State = state_by c.self.inside.parts.manager c.self.inside.wait (shelf_of c.self.inside.parts.store) c.self.inside.parts.lock c.self.inside.requests c.self.inside.found c.self.inside.absent in
    let before : Cache StoreState = cache_of c.self.inside.parts.store c.self.inside.parts.manager (g.R.Rng.stream c.args.rng.now) in
    let after : Cache StoreState = cache_of c.finish.new.parts.store c.finish.new.parts.manager (g.R.Rng.stream c.finish.new.rng) in
    let taken = finish-taken g.row.N s at_any c.args.id before c.self.invariant.0 c.self.invariant.1 (λ q m. flies-for s (c.self.invariant.2.0, c.self.invariant.2.1, c.self.invariant.2.2) c.args.id m q) c.finish.result after c.finish.new.self c.finish.ensures.answer in
    (taken.sharded, taken.under, rw c.finish.ensures.lock (HasAPast-steps c.self.inside.watermark c.self.inside.age s _ _ _ _ _ c.self.invariant.2 taken.steps))

pub returns : goal.returns
returns g c t =
    let s : State = state_by c.self.inside.parts.manager c.self.inside.wait (shelf_of c.self.inside.parts.store) c.self.inside.parts.lock c.self.inside.requests c.self.inside.found c.self.inside.absent in
    let before : Cache StoreState = cache_of c.self.inside.parts.store c.self.inside.parts.manager (g.R.Rng.stream c.args.rng.now) in
    let after : Cache StoreState = cache_of c.finish.new.parts.store c.finish.new.parts.manager (g.R.Rng.stream c.finish.new.rng) in
    let taken = finish-taken g.row.N s t c.args.id before c.self.invariant.0 c.self.invariant.1 (λ q m. flies-for s (c.self.invariant.2.0, c.self.invariant.2.1, c.self.invariant.2.2) c.args.id m q) c.finish.result after c.finish.new.self c.finish.ensures.answer in
    rw (← c.self.view_is, c.finish.ensures.lock) taken.steps
