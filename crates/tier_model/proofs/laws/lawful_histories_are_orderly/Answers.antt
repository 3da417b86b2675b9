use Rattle.tier_model.proofs.StandLaws.{IsOrderly-lawful, TracksBodies-lawful}
use Rattle.tier_model.proofs.GrantedLaws.{IsOrderly-locks}
use Rattle.tier_model.proofs.laws.lawful_histories_are_orderly.Goals as goal

pub returns-clause-orderly : goal.returns-clause-orderly
returns-clause-orderly c = IsOrderly-lawful

pub returns-clause-tracks : goal.returns-clause-tracks
returns-clause-tracks c = TracksBodies-lawful

pub returns-clause-locks : goal.returns-clause-locks
returns-clause-locks c = IsOrderly-locks
