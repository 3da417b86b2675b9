use Rattle.tier_model.proofs.Carried.{IsReport-matches}
use Rattle.tier_model.proofs.laws.reports_tell_the_history.Goals as goal

pub returns : goal.returns
returns c = IsReport-matches
