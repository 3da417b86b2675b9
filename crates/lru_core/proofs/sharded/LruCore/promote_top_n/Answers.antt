use Rattle.std.proofs.Common.{rules}
use Rattle.lru_core.proofs.Filters.{near_there}
use Rattle.lru_core.proofs.sharded.LruCore.promote_top_n.Goals as goal

pub returns-then-is_near_head-clause-found : goal.returns-then-is_near_head-clause-found
returns-then-is_near_head-clause-found g c = near_there c.args.key c.args.top _ (c.is_near_head.ensures.0 c.if-is_near_head.true)

pub returns-else-is_near_head-clause-far : goal.returns-else-is_near_head-clause-far
returns-else-is_near_head-clause-far g c = search rules
