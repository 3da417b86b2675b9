use Rattle.std.proofs.Common.{◌≡◌, ◌<◌, ◌∷◌, [], true, length, arith, sym, ◌∙◌, vec_len}
use Rattle.lru_list.specs.Slots.{has}
use Rattle.lru_list.specs.Columns.{nexts, prevs, order_in}
use Rattle.lru_list.specs.Links.{IsChained}
use Rattle.lru_list.proofs.Columns.{vec_len-nexts}
use Rattle.lru_list.proofs.Indexes.{has_here, has_push_here, has_apart}
use Rattle.lru_list.proofs.Places.{taken_here, taken_other}
use Rattle.lru_list.proofs.Linked.{took, freed_within}
use Rattle.lru_list.proofs.linked_list.slots.take_slot.Goals as goal

pub fill_slot-requires-clause-sentinels : goal.fill_slot-requires-clause-sentinels
fill_slot-requires-clause-sentinels g c = let n = vec_len-nexts c.args.links.now in let w = c.requires.chained.counted in omega arith

pub fill_slot-requires-clause-small : goal.fill_slot-requires-clause-small
fill_slot-requires-clause-small g c = rw (vec_len-nexts c.args.links.now) c.requires.chained.small

pub fill_slot-requires-clause-within : goal.fill_slot-requires-clause-within
fill_slot-requires-clause-within g c = freed_within _ _ _ _ _ c.requires.chained (vec_len-nexts c.args.links.now)

-- there are as many items as links
paired : (g : _) (c : goal.In_ok-i g) → vec_len c.args.links.now ≡ length c.args.items.now.items
paired g c = sym c.requires.paired ∙ c.args.items.now.ok.0

taken : (g : _) (c : goal.In_ok-i g) → IsChained (nexts c.fill_slot.new.links.items) (prevs c.fill_slot.new.links.items) (order_in c.args.links.now.items c.args.free.now.items) c.fill_slot.new.free.items (c.in_ok-i.i ∷ [])
taken g c =
    let e = c.in_ok-i.ensures in
    took _ _ _ _ _ _ _ _ _ _ _ c.requires.chained (vec_len-nexts c.args.links.now) e.reused e.kept e.made e.unlinked e.small

pub returns-clause-taken : goal.returns-clause-taken
returns-clause-taken g c = taken g c

pub returns-clause-slot : goal.returns-clause-slot
returns-clause-slot g c =
    let s = c.in_ok-i.ensures.small in
    (rw (vec_len-nexts c.fill_slot.new.links) ((taken g c).holds c.in_ok-i.i (has_here c.in_ok-i.i [])).1, omega arith)

pub returns-clause-held : goal.returns-clause-held
returns-clause-held g c =
    taken_here c.args.items.now.items _ c.args.free.now.items c.fill_slot.new.free.items c.in_ok-i.i c.args.item _ _
    (λ h. let e = c.in_ok-i.ensures.reused h in
    rw (← paired g c)
    (let m : has c.args.free.now.items c.in_ok-i.i ≡ true = rw e.0 (has_push_here c.fill_slot.new.free.items c.in_ok-i.i) in
    rw (vec_len-nexts c.args.links.now) (c.requires.chained.freed c.in_ok-i.i m).1))
    (λ h. let e = c.in_ok-i.ensures.reused h in (e.0, e.1))
    (λ h. let e = c.in_ok-i.ensures.made h in (e.0 ∙ paired g c, e.1, e.2))

pub returns-clause-kept : goal.returns-clause-kept
returns-clause-kept g c j h =
    let l : j < length c.args.items.now.items = rw (← paired g c, vec_len-nexts c.args.links.now) (c.requires.chained.within j h).1 in
    taken_other c.args.items.now.items _ c.args.free.now.items c.fill_slot.new.free.items c.in_ok-i.i j c.args.item _ _
    (has_apart _ j c.in_ok-i.i h ((taken g c).holds c.in_ok-i.i (has_here c.in_ok-i.i [])).2) l
    (λ h. let e = c.in_ok-i.ensures.reused h in (e.0, e.1))
    (λ h. let e = c.in_ok-i.ensures.made h in (e.0 ∙ paired g c, e.1, e.2))
