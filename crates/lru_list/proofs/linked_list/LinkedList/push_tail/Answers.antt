use Rattle.std.proofs.Common.{◌++◌, [], ◌∷◌, arith, ap, ◌∙◌}
use Rattle.lru_list.specs.Columns.{nexts, prevs, order_in}
use Rattle.lru_list.specs.Links.{IsChained}
use Rattle.lru_list.proofs.Columns.{vec_len-nexts}
use Rattle.lru_list.proofs.Indexes.{has_here}
use Rattle.lru_list.proofs.Linked.{link_tail, settled, tail_within}
use Rattle.lru_list.proofs.linked_list.LinkedList.push_tail.Goals as goal

pub link_tail-requires-clause-last : goal.link_tail-requires-clause-last
link_tail-requires-clause-last g c = rw (vec_len-nexts c.take_slot.new.links) (tail_within _ _ _ _ _ c.in_ok-slot.ensures.taken)

after : (g : _) (c : goal.After-link_tail g) → IsChained (nexts c.link_tail.new.links.items) (prevs c.link_tail.new.links.items) (order_in c.self.inside.links.items c.self.inside.free.items ++ c.in_ok-slot.slot ∷ []) c.take_slot.new.free.items []
after g c = rw (c.link_tail.ensures.next, c.link_tail.ensures.prev) (link_tail _ _ _ _ c.in_ok-slot.slot c.in_ok-slot.ensures.taken)

pub invariant_of-self-2 : goal.invariant_of-self-2
invariant_of-self-2 g c = let d = after g c in
    let p = c.take_slot.ensures.paired in
    let r = c.take_slot.ensures.room in
    let l = c.link_tail.ensures.len in
    (rw (settled _ _ _ _ d) d, (omega arith, omega arith))

pub returns-clause-index : goal.returns-clause-index
returns-clause-index g c = settled _ _ _ _ (after g c) ∙ ap (λ v. v.order ++ c.in_ok-slot.slot ∷ []) c.self.view_is

pub returns-clause-fresh : goal.returns-clause-fresh
returns-clause-fresh g c = rw (← c.self.view_is) (c.in_ok-slot.ensures.taken.holds c.in_ok-slot.slot (has_here c.in_ok-slot.slot [])).2
