use Rattle.std.proofs.Common.{rules}
use Rattle.cache_heads.proofs.filters.request_cacheable.Goals as goal

pub returns-else-eq : goal.returns-else-eq
returns-else-eq c = search rules
