use Rattle.std.proofs.Common.{◌∙◌, ap, ◌-◌, ◌^◌, ℕ}
use Rattle.std.specs.Prelude.{min}
use Rattle.store_memory.proofs.FinishedLaws.{bytes-kept}
use Rattle.store_memory.proofs.cache.MemCache.finished_bytes.Goals as goal

pub returns : goal.returns
returns g c = rw (← c.self.view_is) (c.bytes_of_all.ensures ∙ ap (λ (n : ℕ). min n (2 ^ 64 - 1)) (bytes-kept c.self.inside.bodies.entries))
