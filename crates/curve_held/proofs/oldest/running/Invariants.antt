use Rattle.std.proofs.Common.{◌≡◌, ◌++◌, drop, None}
use Rattle.curve_held.specs.State.{running}
use Rattle.curve_held.proofs.oldest.running.Given as goal

abbrev pub invariant-loop-moment : goal.invariant-loop-moment
invariant-loop-moment l = l.rows.items ++ running l.least (drop l.moment-index l.moments) ≡ running None l.moments
