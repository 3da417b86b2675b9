use Rattle.tier_recorded.proofs.recorded.Recorded.history.Goals as goal

pub returns-clause-fits : goal.returns-clause-fits
returns-clause-fits g c = rw (← c.self.view_is) c.self.invariant.2.fits
