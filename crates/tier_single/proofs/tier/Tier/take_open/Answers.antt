use Rattle.std.proofs.Common.{refl}
use Rattle.tier_model.specs.declared.event.Action.TheVariants.{Open}
use Rattle.tier_single.proofs.RunLaws.{Steps-took, Takes-step}
use Rattle.tier_single.proofs.tier.Tier.take_open.Goals as goal

pub returns : goal.returns
returns g c = λ t s. Takes-step c.args.self.now s (record { moment = t; action = Open c.args.id c.args.key.now c.args.asks }) c.open.result c.open.new.self s
    (Steps-took c.args.self.now s (record { moment = t; action = Open c.args.id c.args.key.now c.args.asks }) (Open c.args.id c.args.key.now c.args.asks) c.open.result c.open.new.self refl tt (c.open.ensures t))
