use Rattle.lru_core.proofs.Pairs.{all_full, pairs_full}
use Rattle.lru_core.proofs.lru_unit.LruUnit.iter.Goals as goal

pub invariant_of-result : goal.invariant_of-result
invariant_of-result g c = rw c.iter.ensures (all_full _)

pub returns : goal.returns
returns g c = rw (← c.self.view_is, c.iter.ensures) (pairs_full _)
