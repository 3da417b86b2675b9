use Rattle.lru_list.proofs.Ends.{at_previous}
use Rattle.lru_list.proofs.linked_list.LinkedList.index_before.Goals as goal

pub returns : goal.returns
returns g c k h e =
    let l = rw (← c.self.view_is) at h in
    let f = rw (← c.self.view_is) at e in
    rw (c.prev_at-before.ensures, ← f, ← c.self.view_is) (at_previous _ _ _ _ k c.self.invariant.0 l)
