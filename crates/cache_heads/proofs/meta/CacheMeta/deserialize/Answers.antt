use Rattle.std.proofs.Common.{◌≡◌, ◌∙◌, Ok, ap, ap₂}
use Rattle.std.proofs.lemmas.Result.{err_from_is_err_and}
use Rattle.head_metas.specs.declared.fault.MetaReadFault.{MetaReadFault}
use Rattle.head_metas.specs.declared.fault.MetaReadFault.TheVariants.{Memory, Pack}
use Rattle.head_metas.specs.HeadReading.{Fails}
use Rattle.cache_heads.specs.declared.meta.CacheMeta.{CacheMeta}
use Rattle.cache_heads.proofs.MetaLaws.{made, is_made}
use Rattle.cache_heads.proofs.meta.CacheMeta.deserialize.Goals as goal

-- where one value is there, only memory fails
only_memory : {X Y : Type 0} (f : MetaReadFault) (x : X) (y : Y) → Fails {X = X} f (Ok x) → Fails {X = Y} f (Ok y)
only_memory Memory x y h = tt
only_memory (Pack fault) x y h = absurd cc

pub returns-in_err-internal-clause-only : goal.returns-in_err-internal-clause-only
returns-in_err-internal-clause-only c = λ m begins. let none = c.in_err-internal.ensures.only m.internal begins.0 in absurd cc

pub returns-in_err-header-clause-only : goal.returns-in_err-header-clause-only
returns-in_err-header-clause-only c = λ m begins.
    let p = err_from_is_err_and c.from_residual-in_err-header.result c.from_residual-in_err-header.ensures.1 in
    rw (p.1, p.2) (only_memory c.in_err-header.field-0.0 m.header m (c.in_err-header.ensures.only m.header begins.1))

pub returns-clause-only : goal.returns-clause-only
returns-clause-only c = λ m begins.
    let internal : m.internal ≡ c.in_ok-internal.internal = let e = c.in_ok-internal.ensures.only m.internal begins.0 in cc in
    let header : m.header ≡ c.in_ok-header.header = let e = c.in_ok-header.ensures.only m.header begins.1 in cc in
    ap (λ (x : CacheMeta). Ok x) (is_made m begins.2 ∙ ap₂ made internal header)
