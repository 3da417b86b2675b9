use Rattle.std.proofs.Common.{◌≡◌, ◌≤◌, ◌++◌, ◌∷◌, [], length, take, false, get_or}
use Rattle.lru_list.specs.Slots.{has}
use Rattle.lru_list.proofs.linked_list.LinkedList.is_near_head.Given as goal

abbrev pub invariant-loop : goal.invariant-loop
invariant-loop g l = record {
  place : l.counter ≤ length l.self.order;
  standing : l.at ≡ get_or (l.self.order ++ 1 ∷ []) l.counter 0;
  passed : has (take l.counter l.self.order) l.i ≡ false;
}
