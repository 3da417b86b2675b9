use Rattle.std.proofs.Common.{rules}
use Rattle.head_metas.proofs.fault.MetaFaultDisplay.fmt.Goals as goal

pub returns : goal.returns
returns c = search rules
