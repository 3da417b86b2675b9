use Rattle.std.proofs.Common.{refl}
use Rattle.rules_laws.proofs.Uses.{unmatched_status}
use Rattle.rules_laws.proofs.using.only_what_matches_is_not_modified.Goals as goal

pub returns-clause-matching : goal.returns-clause-matching
returns-clause-matching c = λ request kept length now boundary how o h. rw h refl

pub returns-clause-others : goal.returns-clause-others
returns-clause-others c = λ request kept length now boundary how o h e. unmatched_status request kept length now boundary how o h e
