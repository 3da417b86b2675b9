use Rattle.std.proofs.Common.{[], ◌∷◌, arith, ap, ◌∙◌}
use Rattle.lru_list.specs.Columns.{nexts, prevs, order_in}
use Rattle.lru_list.specs.Links.{IsChained}
use Rattle.lru_list.proofs.Columns.{vec_len-nexts}
use Rattle.lru_list.proofs.Indexes.{has_here}
use Rattle.lru_list.proofs.Linked.{link_head, settled, head_within}
use Rattle.lru_list.proofs.linked_list.LinkedList.push_head.Goals as goal

pub link_head-requires-clause-first : goal.link_head-requires-clause-first
link_head-requires-clause-first g c = rw (vec_len-nexts c.take_slot.new.links) (head_within _ _ _ _ _ c.in_ok-slot.ensures.taken)

after : (g : _) (c : goal.After-link_head g) → IsChained (nexts c.link_head.new.links.items) (prevs c.link_head.new.links.items) (c.in_ok-slot.slot ∷ order_in c.self.inside.links.items c.self.inside.free.items) c.take_slot.new.free.items []
after g c = rw (c.link_head.ensures.next, c.link_head.ensures.prev) (link_head _ _ _ _ c.in_ok-slot.slot c.in_ok-slot.ensures.taken)

pub invariant_of-self-2 : goal.invariant_of-self-2
invariant_of-self-2 g c = let d = after g c in
    let p = c.take_slot.ensures.paired in
    let r = c.take_slot.ensures.room in
    let l = c.link_head.ensures.len in
    (rw (settled _ _ _ _ d) d, (omega arith, omega arith))

pub returns-clause-index : goal.returns-clause-index
returns-clause-index g c = settled _ _ _ _ (after g c) ∙ ap (λ v. c.in_ok-slot.slot ∷ v.order) c.self.view_is

pub returns-clause-fresh : goal.returns-clause-fresh
returns-clause-fresh g c = rw (← c.self.view_is) (c.in_ok-slot.ensures.taken.holds c.in_ok-slot.slot (has_here c.in_ok-slot.slot [])).2
