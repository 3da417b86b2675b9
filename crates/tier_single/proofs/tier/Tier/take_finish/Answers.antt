use Rattle.tier_model.specs.declared.event.Action.TheVariants.{Finish}
use Rattle.tier_single.proofs.RunLaws.{Takes-step}
use Rattle.tier_single.proofs.tier.Tier.take_finish.Goals as goal

pub returns : goal.returns
returns g c = λ t. Takes-step c.args.self.now _ (record { moment = t; action = Finish c.args.id }) c.finish.result c.finish.new.self _ (c.finish.ensures t)
