use Rattle.std.proofs.Common.{◌≡◌, suc, vec_len, arith}
use Rattle.pingora_lru.proofs.Drawing.{step_drawn}
use Rattle.pingora_lru.proofs.locked.Lru.evict_to_limit.Goals as goal

pub steps-preserved : goal.steps-preserved
steps-preserved g c =
    let more : vec_len c.push_reserved.new.self ≡ suc (vec_len c.steps.pairs) = (let a = c.push_reserved.ensures.len in let b = c.reserve.ensures.len in omega (arith, a, b)) in
    rw more (step_drawn (vec_len c.steps.pairs) (g.G.Rng.stream c.args.rng.now) _ _ _ _ _ c.steps.invariant c.next_u64-a.ensures c.next_u64-b.ensures)
