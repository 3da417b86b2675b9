use borrow.Rule.Slice.AtParam.{field_room}
use denote.Param.{layout, param, number}
use denote.Builtin.{unit}
use mir.Syntax.{Ty}
use prog.Memory.{size}
use Rattle.std.proofs.Common.{◌≡◌, ◌<◌, ◌^◌, refl, ap, sym, ◌∙◌, subst, false, true, Some, rules}
use Rattle.std.specs.Prelude.{Ok, Err}
use Rattle.std.specs.FinMap.{get}
use Rattle.std.proofs.lemmas.Result.{err_from_is_err_and}
use Rattle.cache_evict.specs.contracts.lru.Manager.{the_row as manager_row}
use Rattle.cache_lock.specs.contracts.lock.CacheLock.{the_row as lock_row}
use Rattle.request_store.specs.Admissions.{Cache, cache_of}
use Rattle.request_store.specs.contracts.parts.CacheParts.{the_row as parts_row}
use Rattle.request_store.specs.contracts.policy.NoPolicy.{the_row as policy_row}
use Rattle.cache_store.specs.StoreState.{StoreState}
use Rattle.store_memory.specs.contracts.cache.MemCache.{the_row as store_row}
use Rattle.tier_model.specs.State.{State}
use Rattle.tier_requests.specs.Shelves.{shelf_of}
use Rattle.tier_single.specs.States.{state_by}
use Rattle.tier_single.specs.declared.put.Renewal.{Renewal}
use Rattle.tier_single.specs.declared.put.Renewal.TheVariants.{Renewed, NotRenewed}
use Rattle.tier_single.specs.contracts.tier.Tier.{the_row}
use Rattle.tier_single.proofs.ConfirmLaws.{may_revalidate}
use Rattle.tier_single.proofs.KeptState.{IsKept, kept-steps}
use Rattle.tier_single.proofs.RevalidateLaws.{known, Confirmed-to, revalidate-none, revalidate-wrong, revalidate-fault, revalidate-not, revalidate-kept}
use Rattle.tier_single.proofs.tier.Tier.revalidate.Goals as goal

pub returns-in-None : goal.returns-in-None
returns-in-None g c =
    let i = c.self.inside in
    let s : State = state_by i.parts.manager i.wait (shelf_of i.parts.store) i.parts.lock i.requests i.found i.absent in
    rw (← c.self.view_is) (revalidate-none s (g.R.Rng.stream c.args.rng.now) c.args.moment c.args.id c.args.head.now c.args.given (sym c.can_revalidate.ensures ∙ c.in-None.is))

pub returns-in-Some-false : goal.returns-in-Some-false
returns-in-Some-false g c =
    let i = c.self.inside in
    let s : State = state_by i.parts.manager i.wait (shelf_of i.parts.store) i.parts.lock i.requests i.found i.absent in
    let wrong : may_revalidate (get i.requests c.args.id) ≡ Some false = cc (c.can_revalidate.ensures, c.in-Some-false.is, c.in-Some-false.field-0-test) in
    rw (← c.self.view_is) (revalidate-wrong s (g.R.Rng.stream c.args.rng.now) c.args.moment c.args.id c.args.head.now c.args.given wrong)

pub confirm-requires : goal.confirm-requires
confirm-requires g c =
    let i = c.self.inside in
    let may : may_revalidate (get i.requests c.args.id) ≡ Some true = cc (c.can_revalidate.ensures, c.in-Some-true.is, c.in-Some-true.field-0-test) in
    (search rules, subst (λ (x : State). may_revalidate (get x.requests c.args.id) ≡ Some true) c.self.view_is may)

pub returns-in_err-renewal : goal.returns-in_err-renewal
returns-in_err-renewal g c =
    let i = c.self.inside in
    let s : State = state_by i.parts.manager i.wait (shelf_of i.parts.store) i.parts.lock i.requests i.found i.absent in
    let may : may_revalidate (get i.requests c.args.id) ≡ Some true = cc (c.can_revalidate.ensures, c.in-Some-true.is, c.in-Some-true.field-0-test) in
    let k = known s c.args.id (c.self.invariant.2.0, c.self.invariant.2.1, c.self.invariant.2.2) may in
    let p = err_from_is_err_and c.from_residual.result c.from_residual.ensures.1 in
    rw (← c.self.view_is, p.1, p.2) (revalidate-fault s (g.R.Rng.stream c.args.rng.now) c.args.moment c.args.id c.args.head.now c.args.given k c.in_err-renewal.field-0.0
    (Confirmed-to s c.args.self.now c.args.moment c.args.id c.args.head.now c.args.given _ (Err c.in_err-renewal.field-0.0) c.self.view_is refl c.in_err-renewal.ensures))

pub revalidate-requires-room-E-EvictionManager : goal.revalidate-requires-room-E-EvictionManager
revalidate-requires-room-E-EvictionManager g c = λ κs below.
    let fits : size (layout (the_row (param 0 (number g.row.N)) (param 1 g.row.S) (param 2 g.row.S-Hasher) g.S.BuildHasher g.S.Hasher.Hasher)) < 2 ^ 63 = search rules in
    let parts : Ty = layout (parts_row (store_row (param 1 g.row.S) (param 2 g.row.S-Hasher) g.S.BuildHasher g.S.Hasher.Hasher) (manager_row (param 0 (number g.row.N)) (param 1 g.row.S) (param 2 g.row.S-Hasher) g.S.BuildHasher g.S.Hasher.Hasher) unit
    (lock_row (param 1 g.row.S) (param 2 g.row.S-Hasher) g.S.BuildHasher g.S.Hasher.Hasher) policy_row) in
    let parts_fit : size parts < 2 ^ 63 = field_room (layout (the_row (param 0 (number g.row.N)) (param 1 g.row.S) (param 2 g.row.S-Hasher) g.S.BuildHasher g.S.Hasher.Hasher)) 2 _ _ refl fits in
    field_room parts 1 _ _ refl parts_fit

pub invariant_of-self : goal.invariant_of-self
invariant_of-self g c =
    let i = c.self.inside in
    let s : State = state_by i.parts.manager i.wait (shelf_of i.parts.store) i.parts.lock i.requests i.found i.absent in
    let before : Cache StoreState = cache_of i.parts.store i.parts.manager (g.R.Rng.stream c.args.rng.now) in
    let after : Cache StoreState = cache_of c.revalidate.new.parts.store c.revalidate.new.parts.manager (g.R.Rng.stream c.revalidate.new.rng) in
    let may : may_revalidate (get i.requests c.args.id) ≡ Some true = cc (c.can_revalidate.ensures, c.in-Some-true.is, c.in-Some-true.field-0-test) in
    let k = known s c.args.id (c.self.invariant.2.0, c.self.invariant.2.1, c.self.invariant.2.2) may in
    let steps = revalidate-kept g.row.N s c.args.moment c.args.id c.args.head.now c.args.given before c.self.invariant.0 k c.in-Renewed.meta c.revalidate.result after c.revalidate.new.self c.revalidate.new.parts.lock
    (Confirmed-to s c.args.self.now c.args.moment c.args.id c.args.head.now c.args.given (Ok c.in_ok-renewal.renewal) (Ok (Renewed c.in-Renewed.meta)) c.self.view_is
    (ap (λ (n : Renewal). Ok n) c.in-Renewed.is) c.in_ok-renewal.ensures) c.revalidate.ensures.answer in
    kept-steps g.row.N i.watermark i.age s (g.R.Rng.stream c.args.rng.now) _ _ _ _ c.self.invariant steps

pub invariant_of-self-in-NotRenewed : goal.invariant_of-self-in-NotRenewed
invariant_of-self-in-NotRenewed g c =
    let i = c.self.inside in
    let s : State = state_by i.parts.manager i.wait (shelf_of i.parts.store) i.parts.lock i.requests i.found i.absent in
    let may : may_revalidate (get i.requests c.args.id) ≡ Some true = cc (c.can_revalidate.ensures, c.in-Some-true.is, c.in-Some-true.field-0-test) in
    let k = known s c.args.id (c.self.invariant.2.0, c.self.invariant.2.1, c.self.invariant.2.2) may in
    let left : State = state_by c.revalidate_uncacheable.new.parts.manager i.wait (shelf_of c.revalidate_uncacheable.new.parts.store) c.revalidate_uncacheable.new.parts.lock c.revalidate_uncacheable.new.self i.found i.absent in
    let to : State = record s { requests = c.revalidate_uncacheable.new.self; lock = c.revalidate_uncacheable.new.parts.lock } in
    let is : to ≡ left = λ j. state_by (sym c.revalidate_uncacheable.ensures.parts j).manager i.wait (shelf_of (sym c.revalidate_uncacheable.ensures.parts j).store) c.revalidate_uncacheable.new.parts.lock c.revalidate_uncacheable.new.self i.found i.absent in
    let steps = revalidate-not s (g.R.Rng.stream c.args.rng.now) c.args.moment c.args.id c.args.head.now c.args.given k c.in-NotRenewed.reason c.in-NotRenewed.sent c.revalidate_uncacheable.new.self c.revalidate_uncacheable.new.parts.lock
    (Confirmed-to s c.args.self.now c.args.moment c.args.id c.args.head.now c.args.given (Ok c.in_ok-renewal.renewal) (Ok (NotRenewed c.in-NotRenewed.reason c.in-NotRenewed.sent)) c.self.view_is
    (ap (λ (n : Renewal). Ok n) c.in-NotRenewed.is) c.in_ok-renewal.ensures) c.revalidate_uncacheable.ensures.answer in
    subst (λ (x : State). IsKept g.row.N i.watermark i.age x) is (kept-steps g.row.N i.watermark i.age s (g.R.Rng.stream c.args.rng.now) _ _ to _ c.self.invariant steps)

pub returns-in-Renewed : goal.returns-in-Renewed
returns-in-Renewed g c =
    let i = c.self.inside in
    let s : State = state_by i.parts.manager i.wait (shelf_of i.parts.store) i.parts.lock i.requests i.found i.absent in
    let before : Cache StoreState = cache_of i.parts.store i.parts.manager (g.R.Rng.stream c.args.rng.now) in
    let after : Cache StoreState = cache_of c.revalidate.new.parts.store c.revalidate.new.parts.manager (g.R.Rng.stream c.revalidate.new.rng) in
    let may : may_revalidate (get i.requests c.args.id) ≡ Some true = cc (c.can_revalidate.ensures, c.in-Some-true.is, c.in-Some-true.field-0-test) in
    let k = known s c.args.id (c.self.invariant.2.0, c.self.invariant.2.1, c.self.invariant.2.2) may in
    let steps = revalidate-kept g.row.N s c.args.moment c.args.id c.args.head.now c.args.given before c.self.invariant.0 k c.in-Renewed.meta c.revalidate.result after c.revalidate.new.self c.revalidate.new.parts.lock
    (Confirmed-to s c.args.self.now c.args.moment c.args.id c.args.head.now c.args.given (Ok c.in_ok-renewal.renewal) (Ok (Renewed c.in-Renewed.meta)) c.self.view_is
    (ap (λ (n : Renewal). Ok n) c.in-Renewed.is) c.in_ok-renewal.ensures) c.revalidate.ensures.answer in
    rw (← c.self.view_is) steps

pub returns-in-NotRenewed : goal.returns-in-NotRenewed
returns-in-NotRenewed g c =
    let i = c.self.inside in
    let s : State = state_by i.parts.manager i.wait (shelf_of i.parts.store) i.parts.lock i.requests i.found i.absent in
    let may : may_revalidate (get i.requests c.args.id) ≡ Some true = cc (c.can_revalidate.ensures, c.in-Some-true.is, c.in-Some-true.field-0-test) in
    let k = known s c.args.id (c.self.invariant.2.0, c.self.invariant.2.1, c.self.invariant.2.2) may in
    let left : State = state_by c.revalidate_uncacheable.new.parts.manager i.wait (shelf_of c.revalidate_uncacheable.new.parts.store) c.revalidate_uncacheable.new.parts.lock c.revalidate_uncacheable.new.self i.found i.absent in
    let to : State = record s { requests = c.revalidate_uncacheable.new.self; lock = c.revalidate_uncacheable.new.parts.lock } in
    let is : to ≡ left = λ j. state_by (sym c.revalidate_uncacheable.ensures.parts j).manager i.wait (shelf_of (sym c.revalidate_uncacheable.ensures.parts j).store) c.revalidate_uncacheable.new.parts.lock c.revalidate_uncacheable.new.self i.found i.absent in
    let steps = revalidate-not s (g.R.Rng.stream c.args.rng.now) c.args.moment c.args.id c.args.head.now c.args.given k c.in-NotRenewed.reason c.in-NotRenewed.sent c.revalidate_uncacheable.new.self c.revalidate_uncacheable.new.parts.lock
    (Confirmed-to s c.args.self.now c.args.moment c.args.id c.args.head.now c.args.given (Ok c.in_ok-renewal.renewal) (Ok (NotRenewed c.in-NotRenewed.reason c.in-NotRenewed.sent)) c.self.view_is
    (ap (λ (n : Renewal). Ok n) c.in-NotRenewed.is) c.in_ok-renewal.ensures) c.revalidate_uncacheable.ensures.answer in
    rw (← c.self.view_is) (rw is at steps)
