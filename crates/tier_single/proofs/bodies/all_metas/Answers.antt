use Rattle.std.proofs.Common.{sym, ap, ◌∙◌}
use Rattle.cache_heads.specs.Meta.{meta_length}
use Rattle.tier_model.specs.After.{counted}
use Rattle.tier_single.proofs.BodyRows.{counted-from, bodies-sum}
use Rattle.tier_single.proofs.bodies.all_metas.Goals as goal

pub returns : goal.returns
returns g c = c.finished_meta.ensures ∙ counted-from _ ∙ ap (counted 0) (sym (bodies-sum c.args.store.now.store.bodies c.finished_len-count.ensures.unique (λ b. meta_length b.meta)))
