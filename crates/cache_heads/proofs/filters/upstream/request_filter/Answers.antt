use Rattle.std.proofs.Common.{rules}
use Rattle.cache_heads.proofs.filters.upstream.request_filter.Goals as goal

pub returns-clause-method : goal.returns-clause-method
returns-clause-method c = search rules
