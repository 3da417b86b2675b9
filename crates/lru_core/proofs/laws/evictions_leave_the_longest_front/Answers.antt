use Rattle.lru_core.proofs.Fronts.{single, longest_left}
use Rattle.lru_core.proofs.laws.evictions_leave_the_longest_front.Goals as goal

pub returns : goal.returns
returns g c old new pairs s rest one = longest_left old new pairs s rest (single old.shards one)
