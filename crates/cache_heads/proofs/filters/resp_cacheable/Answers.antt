use Rattle.std.proofs.Common.{rules}
use Rattle.cache_heads.proofs.filters.resp_cacheable.Goals as goal

pub returns : goal.returns
returns c = search rules
