use Rattle.cache_lock.proofs.WaitLaws.{state_of-is}
use Rattle.cache_lock.proofs.laws.the_state_is_what_changes_say.Goals as goal

pub returns : goal.returns
returns c = state_of-is
