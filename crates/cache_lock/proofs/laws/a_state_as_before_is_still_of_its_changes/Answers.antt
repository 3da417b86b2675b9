use Rattle.cache_lock.proofs.GivenBack.{still_state_of}
use Rattle.cache_lock.proofs.laws.a_state_as_before_is_still_of_its_changes.Goals as goal

pub returns : goal.returns
returns c = still_state_of
