use Rattle.std.proofs.Common.{refl}
use Rattle.tier_model.specs.declared.event.Action.TheVariants.{LookUp}
use Rattle.tier_single.specs.Hits.{answer_found}
use Rattle.gateway_state.proofs.Openings.{keeps-at, looks-past, no_words}
use Rattle.gateway_state.proofs.state.Gateway.look_at.Goals as goal

pub returns-then-past-clause-open : goal.returns-then-past-clause-open
returns-then-past-clause-open c =
    looks-past c.args.self.now.tier c.lookup_stale-came.new.self c.args.x (answer_found c.lookup_stale-came.result) (λ locked. (c.lookup_stale-came.ensures.locked locked).1) c.lookup_stale-came.ensures.takes

pub returns-else-past-clause-open : goal.returns-else-past-clause-open
returns-else-past-clause-open c =
    keeps-at c.args.self.now.tier c.find-came.new.self c.of_tier.result (LookUp c.args.x) no_words no_words (answer_found c.find-came.result) (c.find-came.ensures.takes no_words) refl
