use Rattle.tier_recorded.proofs.snapshot.text_of.Goals as goal

pub returns-in-Ok-clause-text : goal.returns-in-Ok-clause-text
returns-in-Ok-clause-text g c = rw c.in-Ok.ensures.ok (c.in_ok-text.ensures.ok, c.in_ok-text.ensures.spelled)
