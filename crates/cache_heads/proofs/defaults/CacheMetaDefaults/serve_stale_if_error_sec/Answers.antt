use Rattle.std.proofs.Common.{rules}
use Rattle.cache_heads.proofs.defaults.CacheMetaDefaults.serve_stale_if_error_sec.Goals as goal

pub returns : goal.returns
returns c = search rules
