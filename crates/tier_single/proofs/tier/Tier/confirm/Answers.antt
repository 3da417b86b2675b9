use Rattle.tier_single.proofs.tier.Tier.confirm.Goals as goal

pub returns-in-None : goal.returns-in-None
returns-in-None g c = rw c.in-None.is c.confirm_judged.ensures

pub returns-in-Some : goal.returns-in-Some
returns-in-Some g c = rw c.in-Some.is (c.confirm_given.ensures c.args.moment)
