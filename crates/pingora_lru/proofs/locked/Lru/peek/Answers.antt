use Rattle.std.proofs.Common.{rules, arith}
use Rattle.std.proofs.lemmas.Grind.{common_steps}
use Rattle.pingora_lru.proofs.locked.Lru.peek.Goals as goal

pub returns : goal.returns
returns g c = (c.deref.result.now.rows, first_of (search rules, grind (arith, common_steps)))
