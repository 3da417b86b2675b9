use Rattle.std.proofs.Common.{rules}
use Rattle.head_directives.proofs.interpret.CacheControlInterpretCacheControl.strip_private_headers.Goals as goal

pub returns-clause-stripped : goal.returns-clause-stripped
returns-clause-stripped c = search rules
