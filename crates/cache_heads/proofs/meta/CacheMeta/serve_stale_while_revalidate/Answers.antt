use Rattle.std.proofs.Common.{rules}
use Rattle.cache_heads.proofs.meta.CacheMeta.serve_stale_while_revalidate.Goals as goal

pub returns : goal.returns
returns c = search rules
