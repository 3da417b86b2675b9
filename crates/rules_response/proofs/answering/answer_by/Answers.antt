use Rattle.std.proofs.Common.{map}
use Rattle.rules_fields.specs.Types.{kept_of, chosen}
use Rattle.rules_response.proofs.Cases.{several}
use Rattle.rules_response.proofs.answering.answer_by.Goals as goal

pub returns-in_default : goal.returns-in_default
returns-in_default c =
    rw (several c.args.parts.now (kept_of c.args.kept.now) c.args.length c.args.now c.args.boundary.now (map (λ h. h.now) c.args.how.now) (chosen c.args.options.now) c.in_default.len_at_least) c.several_parts.ensures
