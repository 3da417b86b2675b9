use Rattle.curve_loads.proofs.Heights.{high-peak}
use Rattle.curve_loads.proofs.Numbers.{high-number, held-kept}
use Rattle.curve_loads.proofs.one_pass.heights_are_peaks.Goals as goal

pub returns-clause-weights : goal.returns-clause-weights
returns-clause-weights c = λ weight e steps. high-peak weight e steps

pub returns-clause-numbers : goal.returns-clause-numbers
returns-clause-numbers c = λ weight e steps. high-number weight e steps

pub returns-clause-held : goal.returns-clause-held
returns-clause-held c = λ weight limit watermark e steps. held-kept weight e limit watermark steps
