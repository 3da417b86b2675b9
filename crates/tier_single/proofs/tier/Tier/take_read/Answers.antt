use Rattle.std.proofs.Common.{refl}
use Rattle.tier_model.specs.declared.event.Action.TheVariants.{Read}
use Rattle.tier_single.proofs.RunLaws.{Steps-took, Takes-step}
use Rattle.tier_single.proofs.tier.Tier.take_read.Goals as goal

pub returns : goal.returns
returns g c = λ t s. Takes-step c.args.self.now s (record { moment = t; action = Read c.args.id }) c.read.result c.read.new.self s
    (Steps-took c.args.self.now s (record { moment = t; action = Read c.args.id }) (Read c.args.id) c.read.result c.read.new.self refl tt (c.read.ensures t))
