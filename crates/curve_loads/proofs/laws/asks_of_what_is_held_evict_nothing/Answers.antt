use Rattle.curve_loads.proofs.Held.{held-within}
use Rattle.curve_loads.proofs.Present.{held-stay}
use Rattle.curve_loads.proofs.Twice.{held-twice}
use Rattle.curve_loads.proofs.laws.asks_of_what_is_held_evict_nothing.Goals as goal

pub returns-clause-within : goal.returns-clause-within
returns-clause-within c = λ weight limit watermark steps. held-within weight limit watermark steps

pub returns-clause-stay : goal.returns-clause-stay
returns-clause-stay c = λ weight limit watermark e steps h. held-stay weight limit watermark e steps h

pub returns-clause-twice : goal.returns-clause-twice
returns-clause-twice c = λ weight limit watermark e steps. held-twice weight limit watermark e steps
