use Rattle.std.proofs.Common.{rules}
use Rattle.head_metas.proofs.internal.write.Goals as goal

pub returns-then-not-is_writable-clause-moment : goal.returns-then-not-is_writable-clause-moment
returns-then-not-is_writable-clause-moment c = search rules

pub returns-then-not-is_writable-clause-writable : goal.returns-then-not-is_writable-clause-writable
returns-then-not-is_writable-clause-writable c = search rules
