use Rattle.lru_list.proofs.Calls.{given_once, given_out}
use Rattle.lru_list.proofs.laws.both_ends_give_each_item_once.Goals as goal

pub returns-clause-once : goal.returns-clause-once
returns-clause-once g c = given_once

pub returns-clause-ends : goal.returns-clause-ends
returns-clause-ends g c = given_out
