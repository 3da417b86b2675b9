use Rattle.lru_numbers.proofs.PlaceLaws.{one_to_one}
use Rattle.lru_numbers.proofs.numbers.Numbers.len.Goals as goal

pub returns-clause-one : goal.returns-clause-one
returns-clause-one g c = rw (← c.self.view_is) (one_to_one c.self.inside.entries.entries c.len.ensures.unique)
