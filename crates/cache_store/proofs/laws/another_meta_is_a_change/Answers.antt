use Rattle.cache_store.proofs.LookLaws.{renewed-agrees}
use Rattle.cache_store.proofs.laws.another_meta_is_a_change.Goals as goal

pub returns : goal.returns
returns c = λ key change x old new e own r. renewed-agrees key change x old new e own r
