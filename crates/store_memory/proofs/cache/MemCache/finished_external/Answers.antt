use Rattle.std.proofs.Common.{◌∙◌, ap, ◌-◌, ◌^◌, ℕ}
use Rattle.std.specs.Prelude.{min}
use Rattle.store_memory.proofs.FinishedLaws.{outside-kept}
use Rattle.store_memory.proofs.cache.MemCache.finished_external.Goals as goal

pub returns : goal.returns
returns g c = rw (← c.self.view_is) (c.external_of_all.ensures ∙ ap (λ (n : ℕ). min n (2 ^ 64 - 1)) (outside-kept c.self.inside.bodies.entries))
