use Rattle.pingora_lru.proofs.Bare.{recorded_more}
use Rattle.pingora_lru.proofs.recorded.RecordedUnit.step.Goals as goal

pub invariant_of-self-in-Ok : goal.invariant_of-self-in-Ok
invariant_of-self-in-Ok g c =
    rw (c.push_reserved.ensures.items, c.reserve.ensures.items, c.in-Ok.ensures.after, c.bare-bare.ensures, c.bare.ensures, c.in-Ok.ensures.reply) (recorded_more _ _ c.args.call c.self.invariant)
