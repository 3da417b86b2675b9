use Rattle.std.proofs.Common.{rules}
use Rattle.head_directives.proofs.interpret.CacheControlInterpretCacheControl.is_cacheable.Goals as goal

pub returns-then-has_directive : goal.returns-then-has_directive
returns-then-has_directive c = search rules

pub returns : goal.returns
returns c = search rules
