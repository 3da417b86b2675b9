use Rattle.tier_single.proofs.tier.Tier.put.Goals as goal

pub returns-in-Some : goal.returns-in-Some
returns-in-Some g c = rw c.in-Some.is (c.put_given.ensures c.args.moment)
