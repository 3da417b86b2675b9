use Rattle.std.proofs.Common.{◌≡◌}
use Rattle.rules_fields.specs.Meaning.{meanings}
use Rattle.rules_fields.specs.Targeted.{members_within, dictionary}
use Rattle.rules_fields.proofs.targeted.dictionary.Given as goal

abbrev pub invariant-loop-n : goal.invariant-loop-n
invariant-loop-n l = members_within l.n l.is_parameter (meanings l.found.items) l.left ≡ dictionary l.text

abbrev pub decreases-loop-n : goal.decreases-loop-n
decreases-loop-n l = l.n
