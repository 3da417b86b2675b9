use Rattle.cache_changes.proofs.FoundLaws.{store_of-is}
use Rattle.cache_changes.proofs.laws.the_state_is_what_changes_say.Goals as goal

pub returns : goal.returns
returns g c = λ changes o. store_of-is changes o
