use Rattle.std.proofs.Common.{codes}
use Rattle.rules_fields.specs.Fields.{tokens}
use Rattle.rules_storage.proofs.Ascending.{all_there}
use Rattle.rules_storage.proofs.laws.selecting_has_the_names.Goals as goal

pub returns : goal.returns
returns c = λ lines name. all_there (tokens (codes "vary") lines) name
