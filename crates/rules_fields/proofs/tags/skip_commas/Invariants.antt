use Rattle.std.proofs.Common.{◌≡◌, length}
use Rattle.rules_fields.specs.Tags.{skip_commas}
use Rattle.rules_fields.proofs.tags.skip_commas.Given as goal

abbrev pub invariant-loop-text : goal.invariant-loop-text
invariant-loop-text l = skip_commas l.text ≡ skip_commas l.fn.text

abbrev pub decreases-loop-text : goal.decreases-loop-text
decreases-loop-text l = length l.text
