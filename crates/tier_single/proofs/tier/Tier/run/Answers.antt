use Rattle.std.proofs.Common.{arith, rules, ◌∙◌}
use Rattle.std.proofs.lemmas.List.{take_all, take_more}
use Rattle.tier_single.proofs.RunLaws.{Takes-none, Takes-more}
use Rattle.tier_single.proofs.tier.Tier.run.Goals as goal

pub loop-event-init : goal.loop-event-init
loop-event-init g c = record { takes = rw c.in-Ok.ensures.items (Takes-none _ _); count = search rules; room = search rules }

pub loop-event-preserved : goal.loop-event-preserved
loop-event-preserved g c = record {
  takes =
      rw (c.push_reserved.ensures.items, take_more c.args.events.now c.loop-event.event-index c.event-item.result c.loop-event-test.true, ← c.event-item.is)
      (Takes-more c.args.self.now _ _ c.loop-event.outcomes.items c.loop-event.self _ c.event-item.result c.step-outcome.result _ _ c.loop-event.invariant.takes c.step-outcome.ensures);
  count = omega (arith, c.push_reserved.ensures.len, c.loop-event.invariant.count);
  room = c.push_reserved.ensures.capacity ∙ c.loop-event.invariant.room;
}

pub returns-clause-takes : goal.returns-clause-takes
returns-clause-takes g c = rw (take_all c.loop-event.event-index c.args.events.now c.loop-event-test.false) at c.loop-event.invariant.takes
