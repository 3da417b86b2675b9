use Rattle.std.proofs.Common.{rules}
use Rattle.lru_core.proofs.lru_unit.LruUnit.peek.Goals as goal

pub returns : goal.returns
returns g c = search rules
