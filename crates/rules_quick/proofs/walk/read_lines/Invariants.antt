use Rattle.std.proofs.Common.{◌≤◌, length, map}
use Rattle.rules_quick.specs.Walked.{stand, GoesOn}
use Rattle.rules_quick.proofs.walk.read_lines.Given as goal

abbrev pub invariant-loop-text : goal.invariant-loop-text
invariant-loop-text l = record {
  walked : GoesOn (map (λ n. n.now) l.drops) (stand l.fn.text.items l.fn.asked.items l.fn.first) (stand l.text.items l.asked.items l.at);
  within : length l.at.left.now ≤ length l.at.run.now;
  shorter : length l.at.left.now ≤ length l.fn.first.left.now;
}

abbrev pub decreases-loop-text : goal.decreases-loop-text
decreases-loop-text l = length l.at.left.now
