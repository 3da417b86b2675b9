use Rattle.tier_single.proofs.tier.Tier.found_len.Goals as goal

pub returns : goal.returns
returns g c = rw (← c.self.view_is) c.unread_len.ensures
