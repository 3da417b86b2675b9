use Rattle.std.proofs.Common.{rules, tests, ◌∙◌, map}
use Rattle.std.specs.Char.{to_ascii_lowercase}
use Rattle.std.specs.Str.{str_eq_ignore_ascii_case}
use Rattle.std.proofs.lemmas.Iterator.{YieldsList-from_slice}
use Rattle.std.proofs.lemmas.Iterator.Search.{position_from_yields_List}
use Rattle.head_directives.proofs.Knowing.{first_place, placed_within}
use Rattle.head_directives.proofs.known.place_in_any_case.Goals as goal

pub returns-clause-is : goal.returns-clause-is
returns-clause-is c =
    position_from_yields_List (λ own. str_eq_ignore_ascii_case c.args.name.now own.now) _ _ c.position.result c.position.ensures.ran (YieldsList-from_slice _ c.iter.ensures.rest) (λ x b q k. search (rules, tests))
    ∙ first_place c.args.name.now

pub returns-clause-within : goal.returns-clause-within
returns-clause-within c = placed_within c.position.result (map to_ascii_lowercase c.args.name.now) (returns-clause-is c)
