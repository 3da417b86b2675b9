use Rattle.std.proofs.Common.{rules}
use Rattle.head_directives.proofs.key.DirectiveKey.as_str.Goals as goal

pub returns-in-SMaxAge : goal.returns-in-SMaxAge
returns-in-SMaxAge c = search rules
