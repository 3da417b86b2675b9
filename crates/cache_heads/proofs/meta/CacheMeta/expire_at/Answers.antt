use Rattle.std.proofs.Common.{rules}
use Rattle.cache_heads.proofs.meta.CacheMeta.expire_at.Goals as goal

pub returns-then-not-is_at_most : goal.returns-then-not-is_at_most
returns-then-not-is_at_most c = search rules

pub returns-else-not-is_at_most : goal.returns-else-not-is_at_most
returns-else-not-is_at_most c = search rules
