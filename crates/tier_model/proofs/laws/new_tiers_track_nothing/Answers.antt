use Rattle.tier_model.proofs.StartedLaws.{tracks_nothing}
use Rattle.tier_model.proofs.laws.new_tiers_track_nothing.Goals as goal

pub returns : goal.returns
returns c = tracks_nothing
