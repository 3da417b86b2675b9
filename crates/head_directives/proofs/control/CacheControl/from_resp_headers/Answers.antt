use Rattle.std.proofs.Common.{rules}
use Rattle.head_directives.proofs.control.CacheControl.from_resp_headers.Goals as goal

pub returns-clause-is : goal.returns-clause-is
returns-clause-is c = search rules
