use Rattle.std.proofs.Common.{rules}
use Rattle.head_directives.proofs.interpret.CacheControlInterpretCacheControl.allow_caching_authorized_req.Goals as goal

pub returns-else-public : goal.returns-else-public
returns-else-public c = search rules
