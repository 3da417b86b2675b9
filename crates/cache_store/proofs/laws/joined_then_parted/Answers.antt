use Rattle.cache_store.proofs.SameLaws.{joined-parted}
use Rattle.cache_store.proofs.laws.joined_then_parted.Goals as goal

pub returns : goal.returns
returns c = λ n old mid new j p. joined-parted n old mid new j p
