use Rattle.std.proofs.Common.{rules}
use Rattle.head_metas.specs.Head.{written_head}
use Rattle.head_metas.proofs.head.write.Goals as goal

pub returns-clause-ok : goal.returns-clause-ok
unfolding written_head
returns-clause-ok c = search rules
