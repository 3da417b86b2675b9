use Rattle.cache_evict.proofs.ReloadLaws.{loaded_again}
use Rattle.cache_evict.proofs.laws.saved_shards_are_loaded.Goals as goal

pub returns : goal.returns
returns c n limit watermark m new texts sharded spelled loads = loaded_again n m sharded limit watermark new texts spelled loads
