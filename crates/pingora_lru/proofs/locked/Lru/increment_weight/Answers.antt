use Rattle.std.proofs.Common.{rules, arith}
use Rattle.std.proofs.lemmas.Grind.{common_steps}
use Rattle.pingora_lru.proofs.locked.Lru.increment_weight.Goals as goal

pub returns-clause-weight : goal.returns-clause-weight
returns-clause-weight g c = first_of (search rules, grind (arith, common_steps))
