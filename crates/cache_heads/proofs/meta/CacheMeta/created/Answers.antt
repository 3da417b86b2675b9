use Rattle.std.proofs.Common.{rules}
use Rattle.cache_heads.proofs.meta.CacheMeta.created.Goals as goal

pub returns : goal.returns
returns c = search rules
