use Rattle.lru_core.proofs.Pairs.{rest_full}
use Rattle.lru_core.proofs.lru_unit.iter.LruUnitIterIterator.next.Goals as goal

pub invariant_of-self-2 : goal.invariant_of-self-2
invariant_of-self-2 g c = rest_full _ _ (rw c.in_ok-slot.ensures.steps at c.self.invariant)
