-- The names that an iterator over a list has still to yield.
use Rattle.std.specs.Prelude.{ℕ, List, []}
use Rattle.std.specs.Option.{option_map_or}
use Rattle.head_directives.specs.Listed.{listed}
use Rattle.head_directives.specs.declared.listed_names.ListValueIter.{ListValueIter}

abbrev pub names_left : ListValueIter → List (List ℕ)
names_left it = option_map_or (λ rest. listed rest.now) it.rest []
