use Rattle.std.proofs.Common.{◌≤◌, length}
use Rattle.rules_quick.specs.ResponseWalks.{stand, GoesOn}
use Rattle.rules_quick.proofs.response_walk.read_lines.Given as goal

abbrev pub invariant-loop-text : goal.invariant-loop-text
invariant-loop-text l = record {
  walked : GoesOn (stand l.fn.text.items l.fn.first) (stand l.text.items l.at);
  within : length l.at.left.now ≤ length l.at.run.now;
  shorter : length l.at.left.now ≤ length l.fn.first.left.now;
}

abbrev pub decreases-loop-text : goal.decreases-loop-text
decreases-loop-text l = length l.at.left.now
