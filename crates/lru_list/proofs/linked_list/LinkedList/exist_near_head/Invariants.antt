use Rattle.std.proofs.Common.{◌≡◌, ◌-◌, take}
use Rattle.std.specs.List.{list_any}
use Rattle.lru_list.specs.Slots.{in_order}
use Rattle.lru_list.proofs.linked_list.LinkedList.exist_near_head.Given as goal

abbrev pub invariant-loop : goal.invariant-loop
invariant-loop g l = record {
  goes : (goal.iterator-loop g).can_next l.items × (goal.iterator-loop g).is_finite l.items;
  same : list_any (λ item. g.K.PartialEq.eq item l.value) (take l.search_limit (in_order l.self)) ≡ list_any (λ item. g.K.PartialEq.eq item l.value) (take (l.search_limit - l.counter) l.items);
}
