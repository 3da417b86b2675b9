use Rattle.tier_single.proofs.tier.Tier.manager.Goals as goal

pub returns-clause-order : goal.returns-clause-order
returns-clause-order g c = rw (← c.self.view_is) (λ start h p. p.matches.order)
