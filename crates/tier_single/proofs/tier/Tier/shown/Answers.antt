use Rattle.tier_requests.proofs.ShownLaws.{shown-meta}
use Rattle.tier_single.proofs.tier.Tier.shown.Goals as goal

pub returns : goal.returns
returns g c = rw (← c.self.view_is, ← c.parts_of.ensures.stored) (shown-meta c.parts_of.result.1 c.self.inside.parts.store c.shown_meta.result c.shown_meta.ensures)
