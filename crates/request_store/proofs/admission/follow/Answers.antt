use Rattle.request_store.proofs.admission.follow.Goals as goal

pub returns-in-Appended-clause-ok : goal.returns-in-Appended-clause-ok
returns-in-Appended-clause-ok g c = rw (c.in-Appended.is, ← c.requires) c.increment_weight.ensures.ok

pub returns-in-Appended-clause-fits : goal.returns-in-Appended-clause-fits
returns-in-Appended-clause-fits g c = rw (c.in-Appended.is, ← c.requires) c.increment_weight.ensures.fits

pub returns-in-Appended-clause-refused : goal.returns-in-Appended-clause-refused
returns-in-Appended-clause-refused g c = rw (c.in-Appended.is, ← c.requires) c.increment_weight.ensures.refused
