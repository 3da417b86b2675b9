use Rattle.std.proofs.Common.{rules}
use Rattle.cache_words.proofs.pack.fault.PackFaultDisplay.fmt.Goals as goal

pub returns : goal.returns
returns g c = search rules
