use borrow.Rule.Slice.AtParam.{field_room}
use denote.Builtin.{unit}
use denote.Param.{layout, number, param}
use mir.Syntax.{Ty}
use prog.Memory.{size}
use Rattle.std.proofs.Common.{◌≡◌, ◌<◌, ◌^◌, refl}
use Rattle.std.proofs.lemmas.Result.{err_from_is_err_and}
use Rattle.cache_evict.specs.contracts.lru.Manager.{the_row as manager_row}
use Rattle.cache_lock.specs.contracts.lock.CacheLock.{the_row as lock_row}
use Rattle.request_store.specs.contracts.parts.CacheParts.{the_row as parts_row}
use Rattle.request_store.specs.contracts.policy.NoPolicy.{the_row as policy_row}
use Rattle.store_memory.specs.contracts.cache.MemCache.{the_row as store_row}
use Rattle.tier_single.specs.contracts.tier.Tier.{the_row as tier_row}
use Rattle.tier_recorded.proofs.snapshot.Snapshot.of.Goals as goal

pub manager-requires : goal.manager-requires
manager-requires g c =
    let tier : Ty = layout (tier_row (param 1 (number g.row.N)) (param 2 g.row.S) (param 3 g.row.S-Hasher) g.S.BuildHasher g.S.Hasher.Hasher) in
    let fits : size tier < 2 ^ 63 = assumption in
    let parts : Ty = layout (parts_row (store_row (param 2 g.row.S) (param 3 g.row.S-Hasher) g.S.BuildHasher g.S.Hasher.Hasher) (manager_row (param 1 (number g.row.N)) (param 2 g.row.S) (param 3 g.row.S-Hasher) g.S.BuildHasher g.S.Hasher.Hasher) unit
    (lock_row (param 2 g.row.S) (param 3 g.row.S-Hasher) g.S.BuildHasher g.S.Hasher.Hasher) policy_row) in
    let parts_fit : size parts < 2 ^ 63 = field_room tier 2 _ _ refl fits in
    (fits, field_room parts 1 _ _ refl parts_fit)

pub texts_of-requires : goal.texts_of-requires
texts_of-requires g c =
    let tier : Ty = layout (tier_row (param 1 (number g.row.N)) (param 2 g.row.S) (param 3 g.row.S-Hasher) g.S.BuildHasher g.S.Hasher.Hasher) in
    let fits : size tier < 2 ^ 63 = assumption in
    let parts : Ty = layout (parts_row (store_row (param 2 g.row.S) (param 3 g.row.S-Hasher) g.S.BuildHasher g.S.Hasher.Hasher) (manager_row (param 1 (number g.row.N)) (param 2 g.row.S) (param 3 g.row.S-Hasher) g.S.BuildHasher g.S.Hasher.Hasher) unit
    (lock_row (param 2 g.row.S) (param 3 g.row.S-Hasher) g.S.BuildHasher g.S.Hasher.Hasher) policy_row) in
    let parts_fit : size parts < 2 ^ 63 = field_room tier 2 _ _ refl fits in
    field_room parts 1 _ _ refl parts_fit

pub returns-in_err-texts-clause-long : goal.returns-in_err-texts-clause-long
returns-in_err-texts-clause-long g c =
    let p = err_from_is_err_and c.from_residual.result c.from_residual.ensures.1 in
    rw (p.1, p.2) (λ e. (rw c.manager.ensures.same at c.in_err-texts.ensures.long) cc)

pub returns-clause-opens : goal.returns-clause-opens
returns-clause-opens g c = record {
  only_order = c.requires.only_order;
  made = c.requires.made;
  sharded = rw c.manager.ensures.same at c.in_ok-texts.ensures.sharded;
  texts = rw c.manager.ensures.same at c.in_ok-texts.ensures.texts;
}

pub returns-clause-words : goal.returns-clause-words
returns-clause-words g c = c.requires.words c.in-Ok.copy c.in-Ok.ensures.cases
