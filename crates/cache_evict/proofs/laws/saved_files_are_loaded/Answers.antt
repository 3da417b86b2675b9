use Rattle.cache_evict.proofs.RecoveryLaws.{recovered}
use Rattle.cache_evict.proofs.laws.saved_files_are_loaded.Goals as goal

pub returns : goal.returns
returns g c files n limit watermark m new loaded absent kept sharded stored loads = recovered g.F.Folder.keeps kept files n m sharded stored limit watermark new loaded absent loads
