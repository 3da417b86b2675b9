use Rattle.std.proofs.Common.{◌≡◌, take, vec_len, vec_capacity, length}
use Rattle.tier_single.specs.Takes.{Takes}
use Rattle.tier_single.proofs.tier.Tier.run.Given as goal

abbrev pub invariant-loop-event : goal.invariant-loop-event
invariant-loop-event g l = record {
  takes : Takes l.fn.self (g.R.Rng.stream l.fn.rng) (take l.event-index l.events) l.outcomes.items l.self (g.R.Rng.stream l.rng);
  count : vec_len l.outcomes ≡ l.event-index;
  room : vec_capacity l.outcomes ≡ length l.events;
}
