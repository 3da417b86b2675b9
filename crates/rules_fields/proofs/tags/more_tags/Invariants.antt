use Rattle.std.proofs.Common.{◌≡◌, map}
use Rattle.rules_fields.specs.Tags.{tags_within, more_tags}
use Rattle.rules_fields.specs.TagValues.{tag_value}
use Rattle.rules_fields.proofs.tags.more_tags.Given as goal

abbrev pub invariant-loop-n : goal.invariant-loop-n
invariant-loop-n l = tags_within l.n (map tag_value l.found.items) l.left ≡ more_tags (map tag_value l.fn.found.items) l.value

abbrev pub decreases-loop-n : goal.decreases-loop-n
decreases-loop-n l = l.n
