use Rattle.std.proofs.Common.{◌∙◌}
use Rattle.tier_single.proofs.BodyRows.{purged-shelf}
use Rattle.tier_single.proofs.bodies.remove.Goals as goal

pub returns-clause-found : goal.returns-clause-found
returns-clause-found g c = c.is_purged.ensures ∙ (purged-shelf c.args.key _ _ c.invalidate-outcome.result c.args.store.now c.invalidate-outcome.new.store c.named_by-named.ensures c.invalidate-outcome.ensures.purged).1

pub returns-clause-after : goal.returns-clause-after
returns-clause-after g c = (purged-shelf c.args.key _ _ c.invalidate-outcome.result c.args.store.now c.invalidate-outcome.new.store c.named_by-named.ensures c.invalidate-outcome.ensures.purged).0
