use Rattle.tier_model.proofs.RefusedLaws.{refused-nothing}
use Rattle.tier_model.proofs.laws.refused_calls_had_done_nothing.Goals as goal

pub returns : goal.returns
returns c = refused-nothing
