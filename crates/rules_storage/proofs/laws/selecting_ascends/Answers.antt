use Rattle.std.proofs.Common.{codes}
use Rattle.rules_fields.specs.Fields.{tokens}
use Rattle.rules_storage.proofs.Ascending.{all_ascend}
use Rattle.rules_storage.proofs.laws.selecting_ascends.Goals as goal

pub returns : goal.returns
returns c = λ lines. all_ascend (tokens (codes "vary") lines)
