use Rattle.std.proofs.Common.{rules}
use Rattle.store_memory.proofs.LengthLaws.{moment-length}
use Rattle.store_memory.proofs.counted_meta.mirrored.Goals as goal

pub returns-clause-len : goal.returns-clause-len
returns-clause-len c = moment-length c.moment_at.result c.args.moment (search rules) (search rules)
