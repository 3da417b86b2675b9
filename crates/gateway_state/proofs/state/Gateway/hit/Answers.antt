use Rattle.gateway_state.proofs.Hits.{hit-keeps}
use Rattle.gateway_state.proofs.state.Gateway.hit.Goals as goal

pub returns-clause-open : goal.returns-clause-open
returns-clause-open c = hit-keeps c.args.self.now.tier c.hit_alone-came.new.self c.of_tier.result c.key_of-key.result c.hit_alone-came.result c.hit_alone-came.ensures.takes
