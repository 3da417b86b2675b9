use Rattle.rules_laws.proofs.Stating.{states}
use Rattle.rules_laws.proofs.parts.parts_state_their_length.Goals as goal

pub returns : goal.returns
returns c = λ p ps kept n now boundary how o. states p ps kept n now boundary how o
