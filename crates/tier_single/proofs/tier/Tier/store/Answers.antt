use Rattle.std.proofs.Common.{refl}
use Rattle.tier_single.proofs.BodyRows.{shows-bodies}
use Rattle.tier_single.proofs.tier.Tier.store.Goals as goal

pub returns-clause-bodies : goal.returns-clause-bodies
returns-clause-bodies g c = rw (← c.self.view_is) (λ start h p. shows-bodies start _ h c.self.inside.parts.store refl p)
