use Rattle.std.proofs.Common.{◌∙◌, ap, ◌-◌, ◌^◌, ℕ}
use Rattle.std.specs.Prelude.{min}
use Rattle.store_memory.proofs.FinishedLaws.{metas-kept}
use Rattle.store_memory.proofs.cache.MemCache.finished_meta.Goals as goal

pub returns : goal.returns
returns g c = rw (← c.self.view_is) (c.meta_of_all.ensures ∙ ap (λ (n : ℕ). min n (2 ^ 64 - 1)) (metas-kept c.self.inside.bodies.entries))
