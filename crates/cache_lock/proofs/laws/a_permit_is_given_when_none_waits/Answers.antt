use Rattle.cache_lock.proofs.WaitLaws.{given_where_none_waits}
use Rattle.cache_lock.proofs.laws.a_permit_is_given_when_none_waits.Goals as goal

pub returns : goal.returns
returns c = given_where_none_waits
