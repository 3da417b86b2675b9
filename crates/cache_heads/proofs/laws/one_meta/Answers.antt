use Rattle.cache_heads.proofs.MetaLaws.{one_meta}
use Rattle.cache_heads.proofs.laws.one_meta.Goals as goal

pub returns : goal.returns
returns c = one_meta
