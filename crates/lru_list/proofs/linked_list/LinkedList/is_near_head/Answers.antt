use Rattle.std.proofs.Common.{◌≡◌, ◌≢◌, ◌<◌, ◌++◌, ◌∷◌, [], length, get_or, arith, sym, ◌∙◌, refl, suc, add-one}
use Rattle.lru_list.specs.Columns.{nexts}
use Rattle.lru_list.proofs.Columns.{vec_len-nexts}
use Rattle.lru_list.proofs.Indexes.{has_at}
use Rattle.lru_list.proofs.Walks.{at_start, at_end, at_item, at_next, has_take, has_take_more, has_take_all}
use Rattle.lru_list.proofs.linked_list.LinkedList.is_near_head.Goals as goal

pub loop-init : goal.loop-init
loop-init g c = record {
  place = omega arith;
  standing = rw (c.next_at-at.ensures, ← c.self.view_is) (at_start _ _ _ _ c.self.invariant.0);
  passed = refl;
}

pub returns-then-at-eq-TAIL : goal.returns-then-at-eq-TAIL
returns-then-at-eq-TAIL g c =
    let v = c.loop.invariant in
    let k = rw (← c.self.view_is) at v.place in
    let e = rw (← c.self.view_is) at (sym v.standing ∙ c.if-at-eq-TAIL.true) in
    let s = at_end _ _ _ _ c.self.invariant.0 c.loop.counter k e in
    sym (has_take_all c.args.self.now.order c.loop.counter c.args.search_limit c.args.i (rw (← c.self.view_is) s) (omega arith) v.passed)

pub returns-then-at-i : goal.returns-then-at-i
returns-then-at-i g c =
    let v = c.loop.invariant in
    let k = rw (← c.self.view_is) at v.place in
    let n : get_or (c.args.self.now.order ++ 1 ∷ []) c.loop.counter 0 ≢ 1 = λ e. c.if-at-eq-TAIL.false (v.standing ∙ e) in
    let s = at_item _ _ _ _ c.self.invariant.0 c.loop.counter k (rw (← c.self.view_is) at n) in
    let l : c.loop.counter < length c.args.self.now.order = rw (← c.self.view_is) s.0 in
    let t : get_or (c.args.self.now.order ++ 1 ∷ []) c.loop.counter 0 ≡ get_or c.args.self.now.order c.loop.counter 0 = rw (← c.self.view_is) s.1 in
    sym (has_take c.args.self.now.order c.loop.counter c.args.search_limit c.args.i (omega arith) l (sym t ∙ (sym v.standing ∙ c.if-at-i.true)))

pub next_at-at-requires-in-loop : goal.next_at-at-requires-in-loop
next_at-at-requires-in-loop g c =
    let v = c.loop.invariant in
    let w = c.self.invariant.0 in
    let k = rw (← c.self.view_is) at v.place in
    let n : get_or (c.args.self.now.order ++ 1 ∷ []) c.loop.counter 0 ≢ 1 = λ e. c.if-at-eq-TAIL.false (v.standing ∙ e) in
    let s = at_item _ _ _ _ w c.loop.counter k (rw (← c.self.view_is) at n) in
    rw (vec_len-nexts c.self.inside.links, v.standing, ← c.self.view_is, s.1) (w.within _ (has_at _ c.loop.counter 0 s.0)).1

pub loop-preserved : goal.loop-preserved
loop-preserved g c =
    let v = c.loop.invariant in
    let w = c.self.invariant.0 in
    let k = rw (← c.self.view_is) at v.place in
    let n : get_or (c.args.self.now.order ++ 1 ∷ []) c.loop.counter 0 ≢ 1 = λ e. c.if-at-eq-TAIL.false (v.standing ∙ e) in
    let s = at_item _ _ _ _ w c.loop.counter k (rw (← c.self.view_is) at n) in
    let l : c.loop.counter < length c.args.self.now.order = rw (← c.self.view_is) s.0 in
    let t : get_or (c.args.self.now.order ++ 1 ∷ []) c.loop.counter 0 ≡ get_or c.args.self.now.order c.loop.counter 0 = rw (← c.self.view_is) s.1 in
    let m : get_or (nexts c.self.inside.links.items) (get_or c.args.self.now.order c.loop.counter 0) 0 ≡ get_or (c.args.self.now.order ++ 1 ∷ []) (suc c.loop.counter) 0 =
    rw (← c.self.view_is) (at_next _ _ _ _ w c.loop.counter s.0) in
    let d : get_or c.args.self.now.order c.loop.counter 0 ≢ c.args.i = λ e. c.if-at-i.false (v.standing ∙ (t ∙ e)) in
    record {
      place = omega arith;
      standing = rw (c.next_at-at-in-loop.ensures, v.standing, t, add-one) m;
      passed = has_take_more c.args.self.now.order c.loop.counter c.args.i l v.passed d;
    }

pub returns : goal.returns
returns g c = let v = c.loop.invariant in let e : c.loop.counter ≡ c.args.search_limit = omega arith in rw (← e) (sym v.passed)
