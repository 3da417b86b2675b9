use Rattle.cache_lock.proofs.GivenBack.{given_back_is}
use Rattle.cache_lock.proofs.laws.given_back.Goals as goal

pub returns : goal.returns
returns c = given_back_is
