use Rattle.std.proofs.Common.{rules}
use Rattle.head_directives.proofs.control.CacheControl.no_cache.Goals as goal

pub returns : goal.returns
returns c = search rules
