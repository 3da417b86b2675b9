use Rattle.std.proofs.Common.{rules}
use Rattle.head_directives.proofs.control.CacheControl.has_key.Goals as goal

pub returns-in-Some : goal.returns-in-Some
returns-in-Some c = search rules
