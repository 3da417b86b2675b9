use Rattle.std.proofs.Common.{rules}
use Rattle.cache_heads.proofs.reason.RespCacheable.unwrap_meta.Goals as goal

pub returns : goal.returns
returns c = search rules
