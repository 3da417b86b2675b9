use Rattle.std.proofs.Common.{◌≢◌, slice_index, arith, ◌∙◌, sym}
use Rattle.lru_list.specs.Columns.{prevs}
use Rattle.lru_list.proofs.Chains.{tail_of}
use Rattle.lru_list.proofs.Linked.{order_high}
use Rattle.lru_list.proofs.linked_list.LinkedList.tail.Goals as goal

pub returns-then-i-eq-HEAD : goal.returns-then-i-eq-HEAD
returns-then-i-eq-HEAD g c =
    let w = c.self.invariant.0 in
    rw (← c.self.view_is) (sym ((tail_of _ _ _ 0 1 w.linked (order_high _ _ _ _ _ 0 w (omega arith))).0 (sym c.prev_at-i.ensures ∙ c.if-i-eq-HEAD.true)))

pub returns-else-i-eq-HEAD : goal.returns-else-i-eq-HEAD
returns-else-i-eq-HEAD g c =
    let w = c.self.invariant.0 in
    let n : slice_index (prevs c.self.inside.links.items) 1 ≢ 0 = λ e. c.if-i-eq-HEAD.false (c.prev_at-i.ensures ∙ e) in
    rw (c.prev_at-i.ensures, ← c.self.view_is) (sym ((tail_of _ _ _ 0 1 w.linked (order_high _ _ _ _ _ 0 w (omega arith))).1 n))
