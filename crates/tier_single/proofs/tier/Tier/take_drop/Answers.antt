use Rattle.std.proofs.Common.{refl}
use Rattle.tier_model.specs.declared.event.Action.TheVariants.{Drop}
use Rattle.tier_single.proofs.RunLaws.{Steps-took, Takes-step}
use Rattle.tier_single.proofs.tier.Tier.take_drop.Goals as goal

pub returns : goal.returns
returns g c = λ t s. Takes-step c.args.self.now s (record { moment = t; action = Drop c.args.id }) c.drop_request.result c.drop_request.new.self s
    (Steps-took c.args.self.now s (record { moment = t; action = Drop c.args.id }) (Drop c.args.id) c.drop_request.result c.drop_request.new.self refl tt (c.drop_request.ensures t))
