use Rattle.rules_laws.proofs.Lying.{lie}
use Rattle.rules_laws.proofs.parts.parts_lie_in_the_body.Goals as goal

pub returns : goal.returns
returns c = λ text length most parts. lie text length most parts
