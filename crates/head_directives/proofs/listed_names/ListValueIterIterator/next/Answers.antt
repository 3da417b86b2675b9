use Rattle.std.proofs.Common.{rules}
use Rattle.head_directives.proofs.listed_names.ListValueIterIterator.next.Goals as goal

pub returns-clause-steps : goal.returns-clause-steps
returns-clause-steps c = search rules
