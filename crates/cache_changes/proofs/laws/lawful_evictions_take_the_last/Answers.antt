use Rattle.cache_changes.proofs.UseLaws.{lawful-is}
use Rattle.cache_changes.proofs.laws.lawful_evictions_take_the_last.Goals as goal

pub returns : goal.returns
returns g c = λ n limit watermark e before. lawful-is n limit watermark e before
