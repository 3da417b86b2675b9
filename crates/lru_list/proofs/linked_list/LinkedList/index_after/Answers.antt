use Rattle.std.proofs.Common.{add-one}
use Rattle.lru_list.proofs.Walks.{at_next}
use Rattle.lru_list.proofs.linked_list.LinkedList.index_after.Goals as goal

pub returns : goal.returns
returns g c k h e =
    let l = rw (← c.self.view_is) at h in
    let f = rw (← c.self.view_is) at e in
    rw (c.next_at-after.ensures, ← f, ← c.self.view_is, add-one) (at_next _ _ _ _ c.self.invariant.0 k l)
