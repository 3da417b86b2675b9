use Rattle.tier_recorded.proofs.recorded.Recorded.tier.Goals as goal

pub returns-clause-replayed : goal.returns-clause-replayed
returns-clause-replayed g c = rw (← c.self.view_is) c.self.invariant.0
