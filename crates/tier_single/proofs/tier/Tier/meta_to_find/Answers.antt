use Rattle.std.proofs.Common.{Some, ap, ◌∙◌}
use Rattle.cache_heads.specs.declared.meta.CacheMeta.{CacheMeta}
use Rattle.tier_single.proofs.FindLaws.{some-of}
use Rattle.tier_single.proofs.tier.Tier.meta_to_find.Goals as goal

pub returns-in-None : goal.returns-in-None
returns-in-None g c = rw (← c.self.view_is) c.in-None.ensures

pub returns-in-Ok : goal.returns-in-Ok
returns-in-Ok g c = rw (← c.self.view_is) (ap (λ (m : CacheMeta). Some m) c.in-Ok.ensures ∙ c.in-Some.ensures)

pub returns-in-Err : goal.returns-in-Err
returns-in-Err g c = rw (← c.self.view_is) (some-of _ _ c.in-Some.ensures)
