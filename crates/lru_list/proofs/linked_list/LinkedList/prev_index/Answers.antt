use Rattle.lru_list.proofs.Chains.{prev_at_place}
use Rattle.lru_list.proofs.linked_list.LinkedList.prev_index.Goals as goal

pub returns-clause-linked : goal.returns-clause-linked
returns-clause-linked g c k h e =
    let w = c.self.invariant.0 in
    let l = rw (← c.self.view_is) at h in
    let f = rw (← c.self.view_is) at e in
    rw (c.prev_at.ensures, ← f, ← c.self.view_is) (prev_at_place _ _ _ 0 1 k w.linked l)
