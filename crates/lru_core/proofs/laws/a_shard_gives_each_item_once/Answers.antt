use Rattle.lru_list.proofs.Calls.{given_once, given_out}
use Rattle.lru_core.specs.Rows.{shown_pair}
use Rattle.lru_core.proofs.laws.a_shard_gives_each_item_once.Goals as goal

pub returns-clause-once : goal.returns-clause-once
returns-clause-once g c = given_once shown_pair

pub returns-clause-ends : goal.returns-clause-ends
returns-clause-ends g c = given_out shown_pair
