use borrow.Rule.Slice.AtParam.{field_room}
use denote.Param.{layout, param, number}
use denote.Builtin.{unit}
use mir.Syntax.{Ty}
use prog.Memory.{size}
use Rattle.cache_evict.specs.contracts.lru.Manager.{the_row as manager_row}
use Rattle.cache_lock.specs.contracts.lock.CacheLock.{the_row as lock_row}
use Rattle.request_store.specs.contracts.parts.CacheParts.{the_row as parts_row}
use Rattle.request_store.specs.contracts.policy.NoPolicy.{the_row as policy_row}
use Rattle.store_memory.specs.contracts.cache.MemCache.{the_row as store_row}
use Rattle.std.proofs.Common.{◌≡◌, ℕ, ◌<◌, ◌^◌, refl, subst, List, Some, rules}
use Rattle.std.specs.Prelude.{Err}
use Rattle.tier_single.specs.contracts.tier.Tier.{the_row}
use Rattle.cache_words.specs.Time.{MomentValue}
use Rattle.request_store.specs.Admissions.{Cache, cache_of}
use Rattle.cache_store.specs.StoreState.{StoreState}
use Rattle.tier_model.specs.Response.{joined}
use Rattle.tier_model.specs.State.{State}
use Rattle.tier_requests.specs.Shelves.{shelf_of}
use Rattle.tier_single.specs.Given.{IsWholeGiven}
use Rattle.tier_single.specs.States.{state_by}
use Rattle.tier_single.proofs.PastLaws.{HasAPast-steps}
use Rattle.tier_single.proofs.PutSteps.{Steps-unread, Steps-not-given}
use Rattle.tier_single.proofs.TakenLaws.{given-taken}
use Rattle.tier_single.proofs.tier.Tier.put_given.Goals as goal

pub put_body-came-requires-room-E-EvictionManager : goal.put_body-came-requires-room-E-EvictionManager
put_body-came-requires-room-E-EvictionManager g c = λ κs below.
    let fits : size (layout (the_row (param 0 (number g.row.N)) (param 1 g.row.S) (param 2 g.row.S-Hasher) g.S.BuildHasher g.S.Hasher.Hasher)) < 2 ^ 63 = search rules in
    let parts : Ty = layout (parts_row (store_row (param 1 g.row.S) (param 2 g.row.S-Hasher) g.S.BuildHasher g.S.Hasher.Hasher) (manager_row (param 0 (number g.row.N)) (param 1 g.row.S) (param 2 g.row.S-Hasher) g.S.BuildHasher g.S.Hasher.Hasher) unit
    (lock_row (param 1 g.row.S) (param 2 g.row.S-Hasher) g.S.BuildHasher g.S.Hasher.Hasher) policy_row) in
    let parts_fit : size parts < 2 ^ 63 = field_room (layout (the_row (param 0 (number g.row.N)) (param 1 g.row.S) (param 2 g.row.S-Hasher) g.S.BuildHasher g.S.Hasher.Hasher)) 2 _ _ refl fits in
    field_room parts 1 _ _ refl parts_fit

pub told_of-requires : goal.told_of-requires
told_of-requires g c =
    let s : State = state_by c.self.inside.parts.manager c.self.inside.wait (shelf_of c.self.inside.parts.store) c.self.inside.parts.lock c.self.inside.requests c.self.inside.found c.self.inside.absent in
    let before : Cache StoreState = cache_of c.self.inside.parts.store c.self.inside.parts.manager (g.R.Rng.stream c.args.rng.now) in
    let after : Cache StoreState = cache_of c.put_body-came.new.parts.store c.put_body-came.new.parts.manager (g.R.Rng.stream c.put_body-came.new.rng) in
    let taken = λ (t : MomentValue). given-taken g.row.N s t c.args.key.now c.args.pieces.now before c.self.invariant.0 c.self.invariant.1 c.args.given c.in-Ok-whole_given.whole (rw c.as_slice.ensures at c.in-Ok-whole_given.ensures)
    c.put_body-came.result after (rw c.in-Ok.ensures at c.put_body-came.ensures.put) in
    (taken c.args.given.created).tellable

pub invariant_of-self : goal.invariant_of-self
invariant_of-self g c =
    let s : State = state_by c.self.inside.parts.manager c.self.inside.wait (shelf_of c.self.inside.parts.store) c.self.inside.parts.lock c.self.inside.requests c.self.inside.found c.self.inside.absent in
    let before : Cache StoreState = cache_of c.self.inside.parts.store c.self.inside.parts.manager (g.R.Rng.stream c.args.rng.now) in
    let after : Cache StoreState = cache_of c.put_body-came.new.parts.store c.put_body-came.new.parts.manager (g.R.Rng.stream c.put_body-came.new.rng) in
    let taken = λ (t : MomentValue). given-taken g.row.N s t c.args.key.now c.args.pieces.now before c.self.invariant.0 c.self.invariant.1 c.args.given c.in-Ok-whole_given.whole (rw c.as_slice.ensures at c.in-Ok-whole_given.ensures)
    c.put_body-came.result after (rw c.in-Ok.ensures at c.put_body-came.ensures.put) in
    let t : MomentValue = c.args.given.created in
    let lock : c.put_body-came.new.parts.lock ≡ c.self.inside.parts.lock = λ i. (c.put_body-came.ensures.parts i).lock in
    ((taken t).sharded, (taken t).under, rw lock (HasAPast-steps c.self.inside.watermark c.self.inside.age s _ _ _ _ _ c.self.invariant.2 ((taken t).takes c.told_of.result c.told_of.ensures)))

pub returns-in_default : goal.returns-in_default
returns-in_default g c = rw c.out_of_memory.ensures (λ (t : MomentValue). Steps-unread c.args.self.now _ t c.args.key.now c.args.pieces.now (Some c.args.given))

pub returns : goal.returns
returns g c = λ (t : MomentValue). Steps-not-given c.args.self.now _ t c.args.key.now c.args.pieces.now c.args.given c.in-Err.fault
    (subst (λ (x : List (List ℕ)). IsWholeGiven c.args.given (joined x) (Err c.in-Err.fault)) c.as_slice.ensures c.in-Err.ensures)

pub returns-in-Ok-whole_given : goal.returns-in-Ok-whole_given
returns-in-Ok-whole_given g c =
    let s : State = state_by c.self.inside.parts.manager c.self.inside.wait (shelf_of c.self.inside.parts.store) c.self.inside.parts.lock c.self.inside.requests c.self.inside.found c.self.inside.absent in
    let before : Cache StoreState = cache_of c.self.inside.parts.store c.self.inside.parts.manager (g.R.Rng.stream c.args.rng.now) in
    let after : Cache StoreState = cache_of c.put_body-came.new.parts.store c.put_body-came.new.parts.manager (g.R.Rng.stream c.put_body-came.new.rng) in
    let taken = λ (t : MomentValue). given-taken g.row.N s t c.args.key.now c.args.pieces.now before c.self.invariant.0 c.self.invariant.1 c.args.given c.in-Ok-whole_given.whole (rw c.as_slice.ensures at c.in-Ok-whole_given.ensures)
    c.put_body-came.result after (rw c.in-Ok.ensures at c.put_body-came.ensures.put) in
    let lock : c.put_body-came.new.parts.lock ≡ c.self.inside.parts.lock = λ i. (c.put_body-came.ensures.parts i).lock in
    rw (← c.self.view_is, lock) (λ (t : MomentValue). (taken t).takes c.told_of.result c.told_of.ensures)
