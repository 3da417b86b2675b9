use Rattle.rules_reuse.proofs.Injective.{secondary_same}
use Rattle.rules_reuse.proofs.laws.secondary_is_injective.Goals as goal

pub returns : goal.returns
returns c = λ names r r'. secondary_same names r r'
