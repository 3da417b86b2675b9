use Rattle.rules_reuse.proofs.Injective.{key_same}
use Rattle.rules_reuse.proofs.laws.key_is_injective.Goals as goal

pub returns : goal.returns
returns c = λ s s' h h' t t' o. key_same s s' h h' t t' o
