use Rattle.rules_laws.proofs.Counting.{goes_down}
use Rattle.rules_laws.proofs.counted.max_forwards_goes_down.Goals as goal

pub returns : goal.returns
returns c = λ r peer o h. goes_down r peer o h
