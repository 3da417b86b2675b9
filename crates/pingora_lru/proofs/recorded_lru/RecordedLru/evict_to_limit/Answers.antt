use Rattle.std.proofs.Common.{◌≡◌, suc, vec_len, arith, Some}
use Rattle.pingora_lru.specs.declared.call.LruCall.TheVariants.{Evict}
use Rattle.pingora_lru.specs.declared.call.Reply.TheVariants.{Taken}
use Rattle.pingora_lru.specs.Records.{IsReply}
use Rattle.pingora_lru.proofs.Drawing.{evicted_more, step_drawn}
use Rattle.pingora_lru.proofs.recorded_lru.RecordedLru.evict_to_limit.Goals.{else-steps-test, then-steps-test+then-not-is_over, then-steps-test+else-not-is_over+else-is_err+in-Ok-None}
use Rattle.pingora_lru.proofs.recorded_lru.RecordedLru.evict_to_limit.Goals as goal

pub returns-then-is_err-clause-refused : goal.returns-then-is_err-clause-refused
returns-then-is_err-clause-refused g c = rw c.reserve.ensures.items c.steps.invariant.0

pub returns-in-Err-clause-refused : goal.returns-in-Err-clause-refused
returns-in-Err-clause-refused g c = rw c.reserve.ensures.items c.steps.invariant.0

pub steps-preserved : goal.steps-preserved
steps-preserved g c =
    let more : vec_len c.push_reserved.new.self ≡ suc (vec_len c.steps.pairs) = (let a = c.push_reserved.ensures.len in let b = c.reserve.ensures.len in omega (arith, a, b)) in
    let gone = c.in-Ok-Some.ensures in
    let taken : IsReply Evict (Taken (Some c.in-Ok-Some.pair)) = rw c.in-Ok-Some.field-0-is at gone in (
      evicted_more c.steps.pairs.items c.reserve.new.self.items c.push_reserved.new.self.items c.in-Ok-Some.pair c.steps.invariant.0 c.reserve.ensures.items c.push_reserved.ensures.items taken,
      rw more (step_drawn (vec_len c.steps.pairs) (g.G.Rng.stream c.args.rng.now) _ _ _ _ _ c.steps.invariant.1 c.next_u64-a.ensures c.next_u64-b.ensures),
    )

pub returns-clause-pairs : goal.returns-clause-pairs
returns-clause-pairs g c = elim c.steps-test.branch [
  | else-steps-test w ↦ rw w.pairs-is c.steps.invariant.0
  | then-steps-test+then-not-is_over w ↦ rw w.pairs-is c.steps.invariant.0
  | then-steps-test+else-not-is_over+else-is_err+in-Ok-None w ↦ rw (w.pairs-is, w.reserve.ensures.items) c.steps.invariant.0
]
