use Rattle.std.proofs.Common.{◌∙◌}
use Rattle.tier_calls.proofs.FinishedLaws.{finished-of}
use Rattle.tier_calls.proofs.shards.finished_by.Goals as goal

pub returns : goal.returns
returns g c = c.finished.ensures ∙ finished-of c.args.stored.now c.store.result.now c.args.tier.now c.store.ensures.shows
