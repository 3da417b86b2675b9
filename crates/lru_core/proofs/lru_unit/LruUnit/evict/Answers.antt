use Rattle.std.proofs.Common.{rules}
use Rattle.lru_core.proofs.lru_unit.LruUnit.evict.Goals as goal

pub returns-clause-some : goal.returns-clause-some
returns-clause-some g c = search rules
