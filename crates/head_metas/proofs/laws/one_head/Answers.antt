use Rattle.head_metas.proofs.HeadLaws.{one_head}
use Rattle.head_metas.proofs.laws.one_head.Goals as goal

pub returns : goal.returns
returns c = one_head
