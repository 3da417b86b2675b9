use Rattle.lru_list.proofs.Chains.{next_at_place}
use Rattle.lru_list.proofs.linked_list.LinkedList.next_index.Goals as goal

pub returns-clause-linked : goal.returns-clause-linked
returns-clause-linked g c k h e =
    let w = c.self.invariant.0 in
    let l = rw (← c.self.view_is) at h in
    let f = rw (← c.self.view_is) at e in
    rw (c.next_at.ensures, ← f, ← c.self.view_is) (next_at_place _ _ _ 0 1 k w.linked l)
