use Rattle.cache_changes.proofs.BoundLaws.{bodies-tracked, bodies-within}
use Rattle.cache_changes.proofs.laws.tracked_bodies_keep_the_limits.Goals as goal

pub returns-clause-tracked : goal.returns-clause-tracked
returns-clause-tracked g c = λ size changes o t s w body. bodies-tracked size changes o t s w body

pub returns-clause-within : goal.returns-clause-within
returns-clause-within g c = λ size changes o t s limit watermark rows order e. bodies-within size changes o t s limit watermark rows order e
