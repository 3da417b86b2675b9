use Rattle.std.proofs.Common.{◌∙◌}
use Rattle.lru_numbers.proofs.PlaceLaws.{found_number, found_none}
use Rattle.lru_numbers.proofs.numbers.Numbers.number_of_borrowed.Goals as goal

pub returns-clause-some : goal.returns-clause-some
returns-clause-some g c = rw (← c.self.view_is) (found_number _ c.self.inside.entries.entries c.self.invariant.1 _ c.copied.result (c.copied.ensures ∙ c.get.ensures.value))

pub returns-clause-none : goal.returns-clause-none
returns-clause-none g c = rw (← c.self.view_is) (found_none _ c.self.inside.entries.entries c.self.invariant.1 _ c.copied.result (c.copied.ensures ∙ c.get.ensures.value))
