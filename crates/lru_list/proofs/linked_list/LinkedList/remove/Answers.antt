use Rattle.std.proofs.Common.{[], arith, refl}
use Rattle.lru_list.specs.Slots.{without}
use Rattle.lru_list.specs.Columns.{nexts, prevs, order_in}
use Rattle.lru_list.specs.Links.{IsChained}
use Rattle.lru_list.proofs.Columns.{vec_len-nexts}
use Rattle.lru_list.proofs.Linked.{unlinked, let_go, settled, prev_within, next_within}
use Rattle.lru_list.proofs.linked_list.LinkedList.remove.Goals as goal

pub unlink-requires-clause-prev : goal.unlink-requires-clause-prev
unlink-requires-clause-prev g c = rw (vec_len-nexts c.self.inside.links) (prev_within _ _ _ _ _ c.self.invariant.0 c.args.i (rw (← c.self.view_is) at c.requires))

pub unlink-requires-clause-next : goal.unlink-requires-clause-next
unlink-requires-clause-next g c = rw (vec_len-nexts c.self.inside.links) (next_within _ _ _ _ _ c.self.invariant.0 c.args.i (rw (← c.self.view_is) at c.requires))

after : (g : _) (c : goal.After-free_slot g) → IsChained (nexts c.free_slot.new.links.items) (prevs c.free_slot.new.links.items) (without c.args.i (order_in c.self.inside.links.items c.self.inside.free.items)) c.free_slot.new.free.items []
after g c =
    let w = unlinked _ _ _ _ c.args.i c.self.invariant.0 (rw (← c.self.view_is) at c.requires) in
    rw (c.free_slot.ensures.next, c.free_slot.ensures.prev, c.unlink.ensures.next, c.unlink.ensures.prev, c.free_slot.ensures.free) (let_go _ _ _ _ c.args.i w)

pub invariant_of-self : goal.invariant_of-self
invariant_of-self g c =
    let d = after g c in
    let p = c.free_slot.ensures.paired in
    let r = c.self.invariant.1.1 in
    let k = c.unlink.ensures.len in
    let l = c.free_slot.ensures.len in
    let o = c.free_slot.ensures.capacity in
    (rw (settled _ _ _ _ d) d, (p, omega arith))

pub returns-clause-after : goal.returns-clause-after
returns-clause-after g c = (c.default.result, c.default.ensures, rw (settled _ _ _ _ (after g c), c.free_slot.ensures.items, c.free_slot.ensures.free, ← c.self.view_is) refl)
