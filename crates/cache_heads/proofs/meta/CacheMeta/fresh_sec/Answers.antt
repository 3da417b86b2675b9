use Rattle.std.proofs.Common.{rules}
use Rattle.cache_heads.proofs.meta.CacheMeta.fresh_sec.Goals as goal

pub returns : goal.returns
returns c = search rules
