use Rattle.std.proofs.Common.{rules, arith, ◌≡◌, ◌+◌, ◌-◌, length, take, drop, ap, ◌∙◌}
use Rattle.std.proofs.lemmas.List.{length_push}
use Rattle.lru_list.specs.Slots.{listed}
use Rattle.lru_list.proofs.Ends.{back_has, back_gives, back_moves}
use Rattle.lru_list.proofs.linked_list.iter.LinkedListIterDoubleEndedIterator.next_back.Goals as goal

pub index_before-self-inside-requires : goal.index_before-self-inside-requires
index_before-self-inside-requires g c = back_has _ _ _ _ _ c.self.invariant.0 c.if-self-eq0.false

pub item-requires : goal.item-requires
item-requires g c = back_has _ _ _ _ _ c.self.invariant.0 c.if-self-eq0.false

pub returns-clause-steps : goal.returns-clause-steps
returns-clause-steps g c = rw (← c.self.view_is) (back_gives _ _ _ _ _ c.self.invariant.0 c.if-self-eq0.false _ _ c.item.ensures)

pub returns-clause-goes : goal.returns-clause-goes
returns-clause-goes g c =
    let n = c.if-self-eq0.false in
    let s : length c.args.self.now ≡ length (listed c.self.inside.list.now.items (take (c.self.inside.left - 1) (drop c.self.inside.from c.self.inside.list.now.order))) + 1 =
    rw (← c.self.view_is) (ap length (back_gives _ _ _ _ _ c.self.invariant.0 n _ _ c.item.ensures) ∙ length_push _ _) in
    search rules

pub invariant_of-self : goal.invariant_of-self
invariant_of-self g c =
    let n = c.if-self-eq0.false in
    let e = ap length (back_gives _ _ _ _ _ c.self.invariant.0 n _ _ c.item.ensures) ∙ length_push _ _ in
    let l = c.self.invariant.1 in
    (back_moves _ _ _ _ _ c.self.invariant.0 n c.index_before-self-inside.result c.index_before-self-inside.ensures, omega (arith, e, l, n))
