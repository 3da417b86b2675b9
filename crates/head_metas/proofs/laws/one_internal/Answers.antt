use Rattle.head_metas.proofs.InternalLaws.{one_meta}
use Rattle.head_metas.proofs.laws.one_internal.Goals as goal

pub returns : goal.returns
returns c = one_meta
