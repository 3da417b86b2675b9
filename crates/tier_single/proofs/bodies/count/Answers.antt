use Rattle.std.proofs.Common.{sym, ◌∙◌}
use Rattle.tier_single.proofs.BodyRows.{bodies-count}
use Rattle.tier_single.proofs.bodies.count.Goals as goal

pub returns : goal.returns
returns g c = c.finished_len.ensures.count ∙ sym (bodies-count c.args.store.now.store.bodies c.finished_len.ensures.unique)
