use Rattle.head_directives.proofs.LastValue.{last_value}
use Rattle.head_directives.proofs.laws.last_value_counts.Goals as goal

pub returns : goal.returns
returns c = λ lines name. last_value name lines
