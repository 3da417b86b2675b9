use Rattle.std.proofs.Common.{arith}
use Rattle.lru_list.proofs.Columns.{vec_len-nexts}
use Rattle.lru_list.proofs.Linked.{live_is}
use Rattle.lru_list.proofs.linked_list.LinkedList.is_live.Goals as goal

pub returns : goal.returns
returns g c =
    let w = c.self.invariant.0 in
    let n = vec_len-nexts c.self.inside.links in
    let m = c.next_at.type_inv in
    let e = c.next_at.ensures in
    rw (e, ← c.self.view_is) (live_is _ _ _ _ c.args.i w (omega arith) (omega arith) (omega arith))
