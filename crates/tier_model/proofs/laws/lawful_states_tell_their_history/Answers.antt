use Rattle.std.proofs.Common.{refl}
use Rattle.tier_model.specs.Past.{state_of}
use Rattle.tier_model.proofs.Carried.{HasPast-lawful}
use Rattle.tier_model.proofs.laws.lawful_states_tell_their_history.Goals as goal

pub returns : goal.returns
returns c = λ start h l. (HasPast-lawful start (state_of start h) h l refl).matches
