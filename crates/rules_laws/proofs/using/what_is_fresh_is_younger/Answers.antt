use Rattle.std.proofs.Common.{◌*◌}
use Rattle.rules_storage.specs.Ages.{age, second}
use Rattle.rules_laws.proofs.Uses.{fresh_row, fresh_now}
use Rattle.rules_laws.proofs.using.what_is_fresh_is_younger.Goals as goal

pub returns : goal.returns
returns c = λ request kept now o h. fresh_now (age kept.arrival now) _ (kept.lifetime * second) (fresh_row _ _ _ _ _ _ h)
