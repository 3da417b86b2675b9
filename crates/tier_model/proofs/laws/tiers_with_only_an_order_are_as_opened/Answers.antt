use Rattle.tier_model.proofs.StartedLaws.{opening_past, finds_nothing}
use Rattle.tier_model.proofs.laws.tiers_with_only_an_order_are_as_opened.Goals as goal

pub returns-clause-past : goal.returns-clause-past
returns-clause-past c = opening_past

pub returns-clause-nothing : goal.returns-clause-nothing
returns-clause-nothing c = finds_nothing
