use Rattle.std.proofs.Common.{rules, arith}
use Rattle.std.proofs.lemmas.Grind.{common_steps}
use Rattle.pingora_lru.proofs.recorded_lru.RecordedLru.look.Goals as goal

pub returns : goal.returns
returns g c = first_of (search rules, grind (arith, common_steps))
