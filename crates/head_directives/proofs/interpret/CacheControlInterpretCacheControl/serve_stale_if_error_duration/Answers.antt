use Rattle.std.proofs.Common.{rules}
use Rattle.head_directives.proofs.interpret.CacheControlInterpretCacheControl.serve_stale_if_error_duration.Goals as goal

pub returns : goal.returns
returns c = search rules
