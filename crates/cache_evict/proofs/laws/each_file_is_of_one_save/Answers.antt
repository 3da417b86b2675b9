use Rattle.cache_evict.proofs.TurnLaws.{of_one_save}
use Rattle.cache_evict.proofs.laws.each_file_is_of_one_save.Goals as goal

pub returns : goal.returns
returns c = of_one_save
