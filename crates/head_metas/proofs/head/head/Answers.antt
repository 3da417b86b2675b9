use Rattle.std.proofs.Common.{rules}
use Rattle.head_metas.specs.HeadReading.{head_at}
use Rattle.head_metas.proofs.head.head.Goals as goal

pub returns-in_err-count : goal.returns-in_err-count
unfolding head_at
returns-in_err-count c = search rules

pub returns : goal.returns
unfolding head_at
returns c = search rules
