use Rattle.pingora_lru.specs.declared.call.LruCall.TheVariants.{Admit}
use Rattle.pingora_lru.proofs.recorded_lru.RecordedLru.admit.Goals as goal

pub returns-clause-reason : goal.returns-clause-reason
returns-clause-reason g c = let r = c.in-Err.ensures.reason in (r.0, r.1, r.2, c.item_back.ensures.reason (Admit c.args.key c.args.item c.args.weight) r.0 r.1 r.3)
