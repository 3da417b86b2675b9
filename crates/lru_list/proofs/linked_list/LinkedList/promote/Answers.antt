use Rattle.std.proofs.Common.{[], ◌∷◌, length, arith, refl}
use Rattle.lru_list.specs.Slots.{without}
use Rattle.lru_list.specs.Columns.{nexts, prevs}
use Rattle.lru_list.specs.Links.{IsChained, order_of}
use Rattle.lru_list.proofs.Columns.{vec_len-nexts}
use Rattle.lru_list.proofs.Linked.{unlinked, link_head, settled, head_within, prev_within, next_within}
use Rattle.lru_list.proofs.linked_list.LinkedList.promote.Goals as goal

pub unlink-requires-clause-prev : goal.unlink-requires-clause-prev
unlink-requires-clause-prev g c = rw (vec_len-nexts c.self.inside.links) (prev_within _ _ _ _ _ c.self.invariant.0 c.args.i (rw (← c.self.view_is) at c.requires))

pub unlink-requires-clause-next : goal.unlink-requires-clause-next
unlink-requires-clause-next g c = rw (vec_len-nexts c.self.inside.links) (next_within _ _ _ _ _ c.self.invariant.0 c.args.i (rw (← c.self.view_is) at c.requires))

pub link_head-requires-clause-first : goal.link_head-requires-clause-first
link_head-requires-clause-first g c =
    let w = unlinked _ _ _ _ c.args.i c.self.invariant.0 (rw (← c.self.view_is) at c.requires) in
    rw (vec_len-nexts c.unlink.new.links) (head_within _ _ _ _ _ (rw (← c.unlink.ensures.next, ← c.unlink.ensures.prev) at w))

after : (g : _) (c : goal.After-link_head g) → IsChained (nexts c.link_head.new.links.items) (prevs c.link_head.new.links.items) (c.args.i ∷ without c.args.i (order_of (nexts c.self.inside.links.items) (length c.self.inside.free.items))) c.self.inside.free.items []
after g c =
    let w = unlinked _ _ _ _ c.args.i c.self.invariant.0 (rw (← c.self.view_is) at c.requires) in
    rw (c.link_head.ensures.next, c.link_head.ensures.prev, c.unlink.ensures.next, c.unlink.ensures.prev) (link_head _ _ _ _ c.args.i w)

pub invariant_of-self : goal.invariant_of-self
invariant_of-self g c = let d = after g c in
    let p = c.self.invariant.1.0 in
    let r = c.self.invariant.1.1 in
    let k = c.unlink.ensures.len in
    let l = c.link_head.ensures.len in
    (rw (settled _ _ _ _ d) d, (omega arith, omega arith))

pub returns : goal.returns
returns g c = rw (settled _ _ _ _ (after g c), ← c.self.view_is) refl
