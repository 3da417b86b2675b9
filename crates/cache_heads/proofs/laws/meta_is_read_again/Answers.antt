use Rattle.cache_heads.proofs.MetaLaws.{meta_begins, meta_again}
use Rattle.cache_heads.proofs.laws.meta_is_read_again.Goals as goal

pub returns : goal.returns
returns c = record { begins = meta_begins; read = meta_again }
