use Rattle.std.proofs.Common.{◌<◌, arith, sym, ◌∙◌}
use Rattle.lru_list.proofs.Places.{any_rest}
use Rattle.lru_list.proofs.linked_list.LinkedList.exist_near_head.Goals as goal

pub loop-preserved : goal.loop-preserved
loop-preserved g c =
    let l : c.loop.counter < c.args.search_limit = omega arith in
    record {
      goes = (tt, tt);
      same = c.loop.invariant.same ∙ any_rest (λ item. g.K.PartialEq.eq item c.args.value.now) c.loop.items c.next.new.self c.in-Some.item.now c.args.search_limit c.loop.counter l c.in-Some.ensures.steps (sym c.eq.ensures ∙ c.if-eq.false);
    }
