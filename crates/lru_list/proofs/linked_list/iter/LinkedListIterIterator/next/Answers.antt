use Rattle.std.proofs.Common.{rules, ap, length, arith}
use Rattle.lru_list.proofs.Ends.{front_has, front_gives, front_moves}
use Rattle.lru_list.proofs.linked_list.iter.LinkedListIterIterator.next.Goals as goal

pub index_after-self-inside-requires : goal.index_after-self-inside-requires
index_after-self-inside-requires g c = front_has _ _ _ _ _ c.self.invariant.0 c.if-self-eq0.false

pub overflow_add-self : goal.overflow_add-self
overflow_add-self g c =
    let s = c.self.invariant.0.small in
    let n = c.if-self-eq0.false in
    omega (arith, n)

pub item-requires : goal.item-requires
item-requires g c = front_has _ _ _ _ _ c.self.invariant.0 c.if-self-eq0.false

pub returns-clause-steps : goal.returns-clause-steps
returns-clause-steps g c = rw (← c.self.view_is) (front_gives _ _ _ _ _ c.self.invariant.0 c.if-self-eq0.false _ _ c.item.ensures)

pub returns-clause-goes : goal.returns-clause-goes
returns-clause-goes g c =
    let s = front_gives _ _ _ _ _ c.self.invariant.0 c.if-self-eq0.false _ _ c.item.ensures in
    search rules

pub invariant_of-self : goal.invariant_of-self
invariant_of-self g c =
    let n = c.if-self-eq0.false in
    let e = ap length (front_gives _ _ _ _ _ c.self.invariant.0 n _ _ c.item.ensures) in
    let l = c.self.invariant.1 in
    (front_moves _ _ _ _ _ c.self.invariant.0 n c.index_after-self-inside.result c.index_after-self-inside.ensures, omega (arith, e, l, n))
