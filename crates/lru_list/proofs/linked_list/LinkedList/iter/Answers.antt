use Rattle.std.proofs.Common.{◌≡◌, ◌<◌, ℕ, true, length, take, ap, sym, arith, ◌∙◌}
use Rattle.std.proofs.lemmas.List.{take_all}
use Rattle.lru_list.specs.Slots.{has, listed, IsBetween}
use Rattle.lru_list.proofs.Columns.{vec_len-nexts}
use Rattle.lru_list.proofs.Ends.{at_back, length-listed}
use Rattle.lru_list.proofs.Walks.{at_start}
use Rattle.lru_list.proofs.linked_list.LinkedList.iter.Goals as goal

pub invariant_of-result : goal.invariant_of-result
invariant_of-result g c =
    let w = c.self.invariant.0 in
    let t = c.len-left.type_inv in
    let e = c.len-left.ensures in
    let ends : IsBetween c.args.self.now.order c.next_at.result c.prev_at.result 0 c.len-left.result = record {
      within = omega arith;
      small = omega arith;
      first = c.next_at.ensures ∙ (rw (← c.self.view_is) (at_start _ _ _ _ w));
      last = c.prev_at.ensures ∙ (rw (e, ← c.self.view_is) (at_back _ _ _ _ w));
    } in
    let all : take c.len-left.result c.args.self.now.order ≡ c.args.self.now.order = take_all _ _ (omega (arith, e)) in
    let within : (i : ℕ) → has c.args.self.now.order i ≡ true → i < length c.args.self.now.items = λ i h. rw (← c.self.view_is, ← c.self.inside.items.ok.0, c.self.invariant.1.0, vec_len-nexts c.self.inside.links) (w.within i (rw (← c.self.view_is) at h)).1 in
    (ends, ap (λ is. length (listed c.args.self.now.items is)) all ∙ (length-listed c.args.self.now.items c.args.self.now.order within ∙ sym e))
