use Rattle.std.proofs.Common.{◌∙◌}
use Rattle.cache_store.proofs.AgreeLaws.{agree-after}
use Rattle.cache_store.proofs.laws.changes_keep_agreement.Goals as goal

pub returns-clause-next : goal.returns-clause-next
returns-clause-next g c change s t a = agree-after change s t a

pub returns-clause-joined : goal.returns-clause-joined
returns-clause-joined g c r s t a b = record { bodies = λ k. a.bodies k ∙ b.bodies k; flying = a.flying ∙ b.flying }
