use Rattle.std.proofs.Common.{sym, ◌∙◌}
use Rattle.tier_single.proofs.JudgeLaws.{verdict-kept, verdict-not}
use Rattle.tier_single.proofs.put.judge_header.Goals as goal

pub returns-in-Cacheable : goal.returns-in-Cacheable
returns-in-Cacheable c = verdict-kept c.args.moment c.args.header c.in-Cacheable.meta (sym c.in-Ok.ensures ∙ c.in-Cacheable.is)

pub returns-in-Uncacheable : goal.returns-in-Uncacheable
returns-in-Uncacheable c = rw c.not_kept.ensures (verdict-not c.args.moment c.args.header c.in-Uncacheable.reason (sym c.in-Ok.ensures ∙ c.in-Uncacheable.is))
