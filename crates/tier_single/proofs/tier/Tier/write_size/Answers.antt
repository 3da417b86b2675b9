use Rattle.tier_single.proofs.tier.Tier.write_size.Goals as goal

pub returns : goal.returns
returns g c = rw (← c.self.view_is) c.write_size.ensures
