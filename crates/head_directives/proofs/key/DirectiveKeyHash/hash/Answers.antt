use Rattle.std.proofs.Common.{rules}
use Rattle.head_directives.proofs.key.DirectiveKeyHash.hash.Goals as goal

pub returns : goal.returns
returns c = search rules
