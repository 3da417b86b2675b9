use Rattle.std.proofs.Common.{refl}
use Rattle.tier_model.specs.declared.event.Action.TheVariants.{Purge}
use Rattle.tier_single.proofs.RunLaws.{Steps-took, Takes-step}
use Rattle.tier_single.proofs.tier.Tier.take_purge.Goals as goal

pub returns : goal.returns
returns g c = λ t s. Takes-step c.args.self.now s (record { moment = t; action = Purge c.args.key.now }) c.purge.result c.purge.new.self s
    (Steps-took c.args.self.now s (record { moment = t; action = Purge c.args.key.now }) (Purge c.args.key.now) c.purge.result c.purge.new.self refl tt (c.purge.ensures t))
