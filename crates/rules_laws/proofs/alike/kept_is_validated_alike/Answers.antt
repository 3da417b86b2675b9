use Rattle.rules_laws.proofs.Answered.{validate_same}
use Rattle.rules_laws.proofs.alike.kept_is_validated_alike.Goals as goal

pub returns : goal.returns
returns c = λ request kept other a. validate_same request kept other a
