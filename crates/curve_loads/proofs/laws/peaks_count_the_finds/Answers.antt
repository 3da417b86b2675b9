use Rattle.curve_loads.proofs.PeakLaws.{held-keeps, finds-counted}
use Rattle.curve_loads.proofs.laws.peaks_count_the_finds.Goals as goal

pub returns-clause-held : goal.returns-clause-held
returns-clause-held c = λ weight limit watermark e steps. held-keeps weight limit watermark e steps

pub returns-clause-finds : goal.returns-clause-finds
returns-clause-finds c = λ weight limit watermark steps. finds-counted weight limit watermark steps
