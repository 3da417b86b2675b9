use Rattle.std.proofs.Common.{arith, ◌∙◌, sym}
use Rattle.lru_list.proofs.Chains.{head_of}
use Rattle.lru_list.proofs.Linked.{order_high}
use Rattle.lru_list.proofs.linked_list.LinkedList.head.Goals as goal

pub returns-then-i-eq-TAIL : goal.returns-then-i-eq-TAIL
returns-then-i-eq-TAIL g c =
    let w = c.self.invariant.0 in
    rw (← c.self.view_is) (sym ((head_of _ _ _ 0 1 w.linked (order_high _ _ _ _ _ 1 w (omega arith))).0 (sym c.next_at-i.ensures ∙ c.if-i-eq-TAIL.true)))
