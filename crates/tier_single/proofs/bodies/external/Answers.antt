use Rattle.std.proofs.Common.{sym, ap, ◌∙◌}
use Rattle.tier_model.specs.After.{counted}
use Rattle.tier_single.proofs.BodyRows.{counted-from, bodies-sum}
use Rattle.tier_single.proofs.bodies.external.Goals as goal

pub returns : goal.returns
returns g c = c.finished_external.ensures ∙ counted-from _ ∙ ap (counted 0) (sym (bodies-sum c.args.store.now.store.bodies c.finished_len-count.ensures.unique (λ b. b.meta.external)))
