use Rattle.tier_single.proofs.RunLaws.{Takes-step}
use Rattle.tier_single.proofs.tier.Tier.step.Goals as goal

pub returns : goal.returns
returns g c = Takes-step c.args.self.now _ c.args.event.now c.dispatch.result c.dispatch.new.self _ c.dispatch.ensures
